-- Searches of a list, and tests that each element passes.
use Rattle.std.proofs.Common.{◌≡◌, ℕ, ◌<◌, ◌≤◌, Bool, true, false, cond, List, [], ◌∷◌, length, refl, sym, arith}
use Rattle.std.specs.Prelude.{All, IfSome, Option, Some, None, position, nat_lt}
use Rattle.std.specs.List.{list_all, position_or_len}
use Rattle.std.proofs.lemmas.Bool.{and_parts, ltb-false}
use Rattle.std.proofs.lemmas.List.Elements.{All-nil, All-cons}
use Rattle.std.proofs.lemmas.List.Sums.{fails_before_first}
use Rattle.std.proofs.lemmas.List.Quantifiers.{position-Some}

-- where no position is found, each element fails
pub none_found : {X : Type 0} (test : X → Bool) (xs : List X) → position test xs ≡ None → All (λ x. test x ≡ false) xs
none_found test xs h = λ k d l. fails_before_first test xs k d (before k (past (nat_lt (position_or_len test xs) (length xs)) (position_or_len test xs) h) l)
  where
    past : (b : Bool) (n : ℕ) → cond b (Some n) None ≡ None → b ≡ false
    past true n e = cc
    past false n e = refl

    before : (k : ℕ) → nat_lt (position_or_len test xs) (length xs) ≡ false → k < length xs → k < position_or_len test xs
    before k e l = omega (arith, ltb-false (position_or_len test xs) (length xs) e)

-- a position that is found is one of the list's
pub found_below : {X : Type 0} (test : X → Bool) (xs : List X) (found : Option ℕ) (most : ℕ) → found ≡ position test xs → length xs ≤ most → IfSome found (λ i. i < most)
found_below test xs None most e h = tt
found_below test xs (Some i) most e h = omega (arith, inside test xs i e)
  where
    inside : {X : Type 0} (test : X → Bool) (xs : List X) (i : ℕ) → Some i ≡ position test xs → i < length xs
    inside test [] i e = cc
    inside test (x ∷ xs) i e = (position-Some test (x ∷ xs) i x (sym e)).0

-- what a test says holds of each element of a list that passes it
pub all_pass : {X : Type 0} (test : X → Bool) (P : X → Type 0) → ((x : X) → test x ≡ true → P x) → (xs : List X) → list_all test xs ≡ true → All P xs
all_pass test P says [] h = All-nil P
all_pass test P says (x ∷ xs) h = let both = and_parts (test x) (list_all test xs) h in All-cons P x xs (says x both.0) (all_pass test P says xs both.1)
