-- Numbers that don't come twice, in one list and in its parts.
use Rattle.std.proofs.Common.{◌≡◌, ◌==◌, ◌++◌, ℕ, Bool, true, false, List, [], ◌∷◌, Option, Some, None, refl, sym, ap, ◌∙◌}
use Rattle.std.specs.Prelude.{is_some}
use Rattle.std.specs.List.{list_any, IsDistinct, AllByRecursion}
use Rattle.std.proofs.lemmas.Bool.{or_parts, or_from, and_parts, and_from, not-true, not_from_false}
use Rattle.std.proofs.lemmas.List.Folds.{list_any-append}
use Rattle.mesh_words.specs.Numbers.{position_of}
use Rattle.mesh_words.proofs.IndexLemmas.{flipped}
use Rattle.mesh_words.proofs.Positions.{list_any-position}
use Rattle.msh_rows.specs.Rows.{are_different}

all_others : (n : ℕ) (ns : List ℕ) → list_any (λ m. m == n) ns ≡ false → AllByRecursion (λ m. (n == m) ≡ false) ns
all_others n [] e = tt
all_others n (m ∷ ms) e = let p = or_parts _ _ e in (flipped m n false p.0, all_others n ms p.1)

no_other : (n : ℕ) (ns : List ℕ) → AllByRecursion (λ m. (n == m) ≡ false) ns → list_any (λ m. m == n) ns ≡ false
no_other n [] h = refl
no_other n (m ∷ ms) h = or_from _ _ (flipped n m false h.0) (no_other n ms h.1)

pub IsDistinct-are_different : (ns : List ℕ) → are_different ns ≡ true → IsDistinct (λ i j. i == j) ns
unfolding are_different IsDistinct
IsDistinct-are_different [] e = tt
IsDistinct-are_different (n ∷ ns) e = let p = and_parts _ _ e in (all_others n ns (not-true _ p.0), IsDistinct-are_different ns p.1)

pub are_different-IsDistinct : (ns : List ℕ) → IsDistinct (λ i j. i == j) ns → are_different ns ≡ true
unfolding are_different IsDistinct
are_different-IsDistinct [] h = refl
are_different-IsDistinct (n ∷ ns) h = and_from _ _ (not_from_false _ (no_other n ns h.0)) (are_different-IsDistinct ns h.1)

-- each number of ms is new after those of ns and those before it
pub record AreNew (ns ms : List ℕ) : Type 0 where
  pub fresh : AllByRecursion (λ m. list_any (λ k. k == m) ns ≡ false) ms
  pub different : IsDistinct (λ m n. m == n) ms

fresh_more : (ns : List ℕ) (m : ℕ) (ms : List ℕ) → AllByRecursion (λ q. list_any (λ k. k == q) ns ≡ false) ms → AllByRecursion (λ q. (m == q) ≡ false) ms → AllByRecursion (λ q. list_any (λ k. k == q) (ns ++ m ∷ []) ≡ false) ms
fresh_more ns m [] h g = tt
fresh_more ns m (q ∷ qs) h g = (list_any-append (λ k. k == q) ns (m ∷ []) ∙ or_from _ _ h.0 (or_from _ _ g.0 refl), fresh_more ns m qs h.1 g.1)

pub AreNew-tail : (ns : List ℕ) (m : ℕ) (ms : List ℕ) → AreNew ns (m ∷ ms) → AreNew (ns ++ m ∷ []) ms
unfolding IsDistinct
AreNew-tail ns m ms h = record { fresh = fresh_more ns m ms h.fresh.1 h.different.0; different = h.different.1 }

all_new : (ms : List ℕ) → AllByRecursion (λ (m : ℕ). list_any (λ k. k == m) [] ≡ false) ms
all_new [] = tt
all_new (m ∷ ms) = (refl, all_new ms)

pub AreNew-from_none : (ms : List ℕ) → IsDistinct (λ m n. m == n) ms → AreNew [] ms
AreNew-from_none ms h = record { fresh = all_new ms; different = h }

none_of : (o : Option ℕ) → is_some o ≡ false → o ≡ None
none_of (Some i) e = absurd cc
none_of None e = refl

-- a number that isn't there stands nowhere
pub AreNew-position : (ns : List ℕ) (m : ℕ) (ms : List ℕ) → AreNew ns (m ∷ ms) → position_of ns m ≡ None
AreNew-position ns m ms h = none_of (position_of ns m) (sym (list_any-position ns m) ∙ h.fresh.0)

-- one more number that isn't there
others_more : (m : ℕ) (ns : List ℕ) (n : ℕ) → AllByRecursion (λ q. (m == q) ≡ false) ns → (m == n) ≡ false → AllByRecursion (λ q. (m == q) ≡ false) (ns ++ n ∷ [])
others_more m [] n h e = (e, tt)
others_more m (q ∷ ns) n h e = (h.0, others_more m ns n h.1 e)

pub IsDistinct-more : (ns : List ℕ) (n : ℕ) → IsDistinct (λ i j. i == j) ns → list_any (λ m. m == n) ns ≡ false → IsDistinct (λ i j. i == j) (ns ++ n ∷ [])
unfolding IsDistinct
IsDistinct-more [] n h e = (tt, tt)
IsDistinct-more (m ∷ ns) n h e = let p = or_parts _ _ e in (others_more m ns n h.0 p.0, IsDistinct-more ns n h.1 p.1)

pub not_there : (ns : List ℕ) (n : ℕ) → position_of ns n ≡ None → list_any (λ m. m == n) ns ≡ false
not_there ns n e = list_any-position ns n ∙ ap is_some e
