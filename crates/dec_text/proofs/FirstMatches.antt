-- The first element of a list that passes a test.
use Rattle.std.proofs.Common.{◌≡◌, ℕ, suc, ◌+◌, ◌≤◌, Bool, true, false, cond, ltb, ◌||◌, not, List, [], ◌∷◌, ◌++◌, length, true≢false, refl, arith, ap, ◌∙◌, Some, None, inl, inr}
use Rattle.std.proofs.lemmas.Bool.{cases_Bool}
use Rattle.std.proofs.lemmas.Bool.Decides.{nat_tests}
use Rattle.std.proofs.lemmas.List.Sums.{prefix_len-le-length}
use Rattle.std.specs.Prelude.{unwrap_or}
use Rattle.std.specs.List.{position, position_or_len, list_any}

-- the index of the first that passes, or the end
pub unwrap_or-position : (p : ℕ → Bool) (xs : List ℕ) → unwrap_or (position p xs) (length xs) ≡ position_or_len p xs
unwrap_or-position p xs = by_test (position_or_len p xs) (length xs) (prefix_len-le-length (λ x. not (p x)) xs)
  where
    by_test : (m n : ℕ) → m ≤ n → unwrap_or (cond (ltb m n) (Some m) None) n ≡ m
    by_test m n h = grind (arith, nat_tests)

-- some element passes where the index of the first isn't the end
pub ltb-position_or_len : (p : ℕ → Bool) (xs : List ℕ) → ltb (position_or_len p xs) (length xs) ≡ list_any p xs
ltb-position_or_len p [] = refl
ltb-position_or_len p (x ∷ xs) = by_first (p x) (position_or_len p xs) (length xs) ∙ ap (λ r. p x || r) (ltb-position_or_len p xs)
  where
    shifted : (k n : ℕ) → ltb (1 + k) (suc n) ≡ ltb k n
    shifted k n = grind (arith, nat_tests)

    by_first : (b : Bool) (k n : ℕ) → ltb (cond (not b) (1 + k) 0) (suc n) ≡ (b || ltb k n)
    by_first true k n = grind (arith, nat_tests)
    by_first false k n = shifted k n

-- the index of the first that passes, in a list where none does, and where the next passes
pub position_or_len-none : (p : ℕ → Bool) (xs : List ℕ) → list_any p xs ≡ false → position_or_len p xs ≡ length xs
position_or_len-none p [] h = refl
position_or_len-none p (x ∷ xs) h = elim (cases_Bool (p x)) [
  | inl t ↦ absurd (true≢false (rw t at h))
  | inr f ↦ rw f (omega (arith, position_or_len-none p xs (rw f at h)))
]

pub position_or_len-next : (p : ℕ → Bool) (xs : List ℕ) (y : ℕ) (ys : List ℕ) → list_any p xs ≡ false → p y ≡ true → position_or_len p (xs ++ y ∷ ys) ≡ length xs
position_or_len-next p [] y ys h t = rw t refl
position_or_len-next p (x ∷ xs) y ys h t = elim (cases_Bool (p x)) [
  | inl u ↦ absurd (true≢false (rw u at h))
  | inr f ↦ rw f (omega (arith, position_or_len-next p xs y ys (rw f at h) t))
]
