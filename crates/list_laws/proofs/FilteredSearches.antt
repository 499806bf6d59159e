-- Tests and searches of what passes a filter.
use Rattle.std.proofs.Common.{◌≡◌, ℕ, zero, suc, Bool, true, false, cond, List, [], ◌∷◌, take, refl, ap, ◌∙◌}
use Rattle.std.specs.Prelude.{All, Some, None, slice_get}
use Rattle.std.specs.List.{filter, find, list_all}
use Rattle.std.proofs.lemmas.Bool.{and_from, and_left, and_right}
use Rattle.std.proofs.lemmas.List.Elements.{All-head, All-tail}

module _ {A : Type 0} (passes test : A → Bool) where
  -- each that passes meets the test
  pub all_filtered : (xs : List A) → All (λ x. passes x ≡ true → test x ≡ true) xs → list_all test (filter passes xs) ≡ true
  all_filtered [] h = refl
  all_filtered (x ∷ xs) h = by (all_filtered xs (All-tail (λ y. passes y ≡ true → test y ≡ true) x xs h)) (passes x) refl
    where
      by : list_all test (filter passes xs) ≡ true → (b : Bool) → passes x ≡ b → list_all test (cond b (x ∷ filter passes xs) (filter passes xs)) ≡ true
      by rest true e = and_from (test x) _ (All-head (λ y. passes y ≡ true → test y ≡ true) x xs h e) rest
      by rest false e = rest

  -- one that passes does not
  pub one_filtered_fails : (xs : List A) (place : ℕ) (one : A) → slice_get xs place ≡ Some one → passes one ≡ true → test one ≡ false → list_all test (filter passes xs) ≡ false
  one_filtered_fails [] place one there pass fails = absurd (none one there)
    where
      none : (y : A) → None ≡ Some y → ⊥
      none y e = cc
  one_filtered_fails (x ∷ xs) zero one there pass fails = by (passes x) (ap passes here ∙ pass)
    where
      here : x ≡ one
      here = cc

      by : (b : Bool) → b ≡ true → list_all test (cond b (x ∷ filter passes xs) (filter passes xs)) ≡ false
      by true e = and_left (test x) _ (ap test here ∙ fails)
      by false e = absurd (differ e)
        where
          differ : false ≡ true → ⊥
          differ e = cc
  one_filtered_fails (x ∷ xs) (suc place) one there pass fails = by (one_filtered_fails xs place one there pass fails) (passes x)
    where
      by : list_all test (filter passes xs) ≡ false → (b : Bool) → list_all test (cond b (x ∷ filter passes xs) (filter passes xs)) ≡ false
      by rest true = and_right (test x) _ rest
      by rest false = rest

  -- one that passes and meets the test is found, where none before it does both
  pub found_filtered : (xs : List A) (place : ℕ) (one : A) → slice_get xs place ≡ Some one → passes one ≡ true → test one ≡ true →
      All (λ x. passes x ≡ true → test x ≡ false) (take place xs) → find test (filter passes xs) ≡ Some one
  found_filtered [] place one there pass meets before = absurd (none one there)
    where
      none : (y : A) → None ≡ Some y → ⊥
      none y e = cc
  found_filtered (x ∷ xs) zero one there pass meets before = by (passes x) (ap passes here ∙ pass)
    where
      here : x ≡ one
      here = cc

      by : (b : Bool) → b ≡ true → find test (cond b (x ∷ filter passes xs) (filter passes xs)) ≡ Some one
      by true e = ap (λ b. cond b (Some x) (find test (filter passes xs))) (ap test here ∙ meets) ∙ ap Some here
      by false e = absurd (differ e)
        where
          differ : false ≡ true → ⊥
          differ e = cc
  found_filtered (x ∷ xs) (suc place) one there pass meets before =
      by (found_filtered xs place one there pass meets (All-tail (λ y. passes y ≡ true → test y ≡ false) x (take place xs) before)) (passes x) refl
    where
      by : find test (filter passes xs) ≡ Some one → (b : Bool) → passes x ≡ b → find test (cond b (x ∷ filter passes xs) (filter passes xs)) ≡ Some one
      by rest true e = ap (λ b. cond b (Some x) (find test (filter passes xs))) (All-head (λ y. passes y ≡ true → test y ≡ false) x (take place xs) before e) ∙ rest
      by rest false e = rest
