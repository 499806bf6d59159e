-- A point against a segment: the foot where it is inside, else an end.
use Rattle.std.proofs.Common.{◌≡◌, ℤ, pos, ◌+ℤ◌, ◌-ℤ◌, ◌*ℤ◌, neg_ℤ, ◌≤ℤ◌, ◌<ℤ◌, [], ◌∷◌, sym, subst, arith}
use Rattle.std.proofs.lemmas.Int.{ints, by_lt_z}
use Rattle.space3.specs.declared.vectors.V3.{V3}
use Rattle.whole_laws.proofs.Ring.{ring, v, num, neg, ◌⊕◌, ◌⊖◌, ◌⊗◌}
use Rattle.whole_laws.proofs.Order.{sq_nonneg_ℤ, mul_nonneg_ℤ, add_nonneg_ℤ, le_from_nonneg}
use Rattle.nearest.proofs.LowerBounds.{IsUnder, twice-nonneg}
use Rattle.space3.specs.Vectors.{cross_product, difference, dot_product, squared_length}
use Rattle.space3.proofs.Combinations.{mixed, same_vector, squared-nonneg}
use Rattle.space3.proofs.VectorForms.{at, components, cross, dot, ◌⊕₃◌, ◌⊖₃◌, ◌⊗₃◌}
use Rattle.nearest.specs.Feet.{foot_on}

-- which of the three candidates is a bound of the distance: the foot, the first end, the second end
pub data Nearest (p s t : V3) (S dist : ℤ) : Type 0 where
  by_foot : pos 0 <ℤ (foot_on p s t).start → pos 0 <ℤ (foot_on p s t).end → IsUnder (foot_on p s t).num (foot_on p s t).den S dist → Nearest p s t S dist
  by_start : IsUnder (squared_length (difference p s)) (pos 1) S dist → Nearest p s t S dist
  by_end : IsUnder (squared_length (difference p t)) (pos 1) S dist → Nearest p s t S dist

turn : (a : ℤ) → a ≤ℤ pos 0 → pos 0 ≤ℤ neg_ℤ a
turn a h = omega (arith, ints)

-- q = p − s, e = t − s
turned : (p s t : V3) (y z : ℤ) → mixed y z (difference p s) (difference p t) ≡ mixed (y +ℤ z) (neg_ℤ z) (difference p s) (difference t s)
turned p s t y z = same_vector _ _ (one p.x s.x t.x) (one p.y s.y t.y) (one p.z s.z t.z)
  where
    one : (p s t : ℤ) → y *ℤ (p -ℤ s) +ℤ z *ℤ (p -ℤ t) ≡ (y +ℤ z) *ℤ (p -ℤ s) +ℤ neg_ℤ z *ℤ (t -ℤ s)
    one p s t = ring (p ∷ s ∷ t ∷ y ∷ z ∷ []) (v 3 ⊗ (v 0 ⊖ v 1) ⊕ v 4 ⊗ (v 0 ⊖ v 2)) ((v 3 ⊕ v 4) ⊗ (v 0 ⊖ v 1) ⊕ neg (v 4) ⊗ (v 2 ⊖ v 1)) tt

foot_is_under : (S z : ℤ) (q e : V3) → IsUnder (squared_length (cross_product q e)) (squared_length e) S (squared_length (mixed S z q e))
foot_is_under S z q e = record { under = le_from_nonneg _ _ (rw split (sq_nonneg_ℤ (dot_product (mixed S z q e) e))) }
  where
    split : squared_length e *ℤ squared_length (mixed S z q e) -ℤ squared_length (cross_product q e) *ℤ (S *ℤ S) ≡ dot_product (mixed S z q e) e *ℤ dot_product (mixed S z q e) e
    split =
        let d = v 0 ⊗₃ at 2 ⊕₃ v 1 ⊗₃ at 5 in
        let qe = cross (at 2) (at 5) in
        ring (S ∷ z ∷ components (q ∷ e ∷ [])) (dot (at 5) (at 5) ⊗ dot d d ⊖ dot qe qe ⊗ (v 0 ⊗ v 0)) (dot d (at 5) ⊗ dot d (at 5)) tt

-- S·q + w·k, where q and k don't point against each other
end_is_under : (S w : ℤ) (q k : V3) → pos 0 ≤ℤ S → pos 0 ≤ℤ w → pos 0 ≤ℤ dot_product q k → IsUnder (squared_length q) (pos 1) S (squared_length (mixed S w q k))
end_is_under S w q k hS hw h = record {
  under = le_from_nonneg _ _ (rw split (add_nonneg_ℤ _ _ (mul_nonneg_ℤ _ _ (twice-nonneg _ (mul_nonneg_ℤ S w hS hw)) h) (mul_nonneg_ℤ _ _ (sq_nonneg_ℤ w) (squared-nonneg k))));
}
  where
    split : pos 1 *ℤ squared_length (mixed S w q k) -ℤ squared_length q *ℤ (S *ℤ S) ≡ (pos 2 *ℤ (S *ℤ w)) *ℤ dot_product q k +ℤ (w *ℤ w) *ℤ squared_length k
    split =
        let d = v 0 ⊗₃ at 2 ⊕₃ v 1 ⊗₃ at 5 in
        ring (S ∷ w ∷ components (q ∷ k ∷ [])) (num (pos 1) ⊗ dot d d ⊖ dot (at 2) (at 2) ⊗ (v 0 ⊗ v 0)) ((num (pos 2) ⊗ (v 0 ⊗ v 1)) ⊗ dot (at 2) (at 5) ⊕ (v 1 ⊗ v 1) ⊗ dot (at 5) (at 5)) tt

-- the same two, by the weights of the ends
from_start : (p s t : V3) (y z : ℤ) → mixed y z (difference p s) (difference p t) ≡ mixed (y +ℤ z) z (difference p s) (difference s t)
from_start p s t y z = same_vector _ _ (one p.x s.x t.x) (one p.y s.y t.y) (one p.z s.z t.z)
  where
    one : (p s t : ℤ) → y *ℤ (p -ℤ s) +ℤ z *ℤ (p -ℤ t) ≡ (y +ℤ z) *ℤ (p -ℤ s) +ℤ z *ℤ (s -ℤ t)
    one p s t = ring (p ∷ s ∷ t ∷ y ∷ z ∷ []) (v 3 ⊗ (v 0 ⊖ v 1) ⊕ v 4 ⊗ (v 0 ⊖ v 2)) ((v 3 ⊕ v 4) ⊗ (v 0 ⊖ v 1) ⊕ v 4 ⊗ (v 1 ⊖ v 2)) tt

from_end : (p s t : V3) (y z : ℤ) → mixed y z (difference p s) (difference p t) ≡ mixed (y +ℤ z) y (difference p t) (difference t s)
from_end p s t y z = same_vector _ _ (one p.x s.x t.x) (one p.y s.y t.y) (one p.z s.z t.z)
  where
    one : (p s t : ℤ) → y *ℤ (p -ℤ s) +ℤ z *ℤ (p -ℤ t) ≡ (y +ℤ z) *ℤ (p -ℤ t) +ℤ y *ℤ (t -ℤ s)
    one p s t = ring (p ∷ s ∷ t ∷ y ∷ z ∷ []) (v 3 ⊗ (v 0 ⊖ v 1) ⊕ v 4 ⊗ (v 0 ⊖ v 2)) ((v 3 ⊕ v 4) ⊗ (v 0 ⊖ v 2) ⊕ v 3 ⊗ (v 2 ⊖ v 1)) tt

-- what the signs of the two weights of the foot say
back_from_start : (p s t : V3) → dot_product (difference p s) (difference s t) ≡ neg_ℤ (foot_on p s t).end
back_from_start p s t = ring (components (p ∷ s ∷ t ∷ [])) (dot (at 0 ⊖₃ at 3) (at 3 ⊖₃ at 6)) (neg (dot (at 0 ⊖₃ at 3) (at 6 ⊖₃ at 3))) tt

on_from_end : (p s t : V3) → dot_product (difference p t) (difference t s) ≡ neg_ℤ (foot_on p s t).start
on_from_end p s t =
    ring (components (p ∷ s ∷ t ∷ [])) (dot (at 0 ⊖₃ at 6) (at 6 ⊖₃ at 3))
    (neg (dot (at 6 ⊖₃ at 3) (at 6 ⊖₃ at 3) ⊖ dot (at 0 ⊖₃ at 3) (at 6 ⊖₃ at 3))) tt

-- one of the three candidates of a point and a segment is a bound at all weights
pub nearest_of_segment : (p s t : V3) (y z : ℤ) → pos 0 ≤ℤ y → pos 0 ≤ℤ z → Nearest p s t (y +ℤ z) (squared_length (mixed y z (difference p s) (difference p t)))
nearest_of_segment p s t y z hy hz =
    let total = add_nonneg_ℤ y z hy hz in
    by_lt_z (pos 0) (foot_on p s t).end
    (λ f. by_lt_z (pos 0) (foot_on p s t).start
    (λ g. by_foot g f (subst (λ (d : V3). IsUnder (foot_on p s t).num (foot_on p s t).den (y +ℤ z) (squared_length d)) (sym (turned p s t y z)) (foot_is_under (y +ℤ z) (neg_ℤ z) (difference p s) (difference t s))))
    (λ g. by_end (subst (λ (d : V3). IsUnder (squared_length (difference p t)) (pos 1) (y +ℤ z) (squared_length d)) (sym (from_end p s t y z)) (end_is_under (y +ℤ z) y (difference p t) (difference t s) total hy (rw (on_from_end p s t) (turn _ g))))))
    (λ f. by_start (subst (λ (d : V3). IsUnder (squared_length (difference p s)) (pos 1) (y +ℤ z) (squared_length d)) (sym (from_start p s t y z)) (end_is_under (y +ℤ z) z (difference p s) (difference s t) total hz (rw (back_from_start p s t) (turn _ f)))))
