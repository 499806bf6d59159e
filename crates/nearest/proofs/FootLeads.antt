-- The foot of a place on a plane or a line: along n nothing gets nearer.
use Rattle.std.proofs.Common.{◌≡◌, ℤ, pos, ◌+ℤ◌, ◌-ℤ◌, ◌*ℤ◌, ◌≤ℤ◌, [], ◌∷◌, sym, subst}
use Rattle.space3.specs.declared.vectors.V3.{V3}
use Rattle.whole_laws.proofs.Ring.{ring, ring_by, v, num, neg, ◌⊕◌, ◌⊖◌, ◌⊗◌}
use Rattle.whole_laws.proofs.Order.{sq_nonneg_ℤ, mul_nonneg_ℤ, add_nonneg_ℤ, le_from_nonneg}
use Rattle.nearest.proofs.LowerBounds.{IsUnder, twice-nonneg}
use Rattle.space3.specs.Vectors.{dot_product, multiple, squared_length}
use Rattle.space3.proofs.Combinations.{cauchy, mixed, squared-nonneg}
use Rattle.space3.proofs.VectorForms.{at, components, dot, ◌⊕₃◌, ◌⊗₃◌}

-- From the difference d of weights with the sum S straight towards h with the sum D the distance never rises.
pub record Leads (S D : ℤ) (d h : V3) : Type 0 where
  pub nearer : (s t : ℤ) → pos 0 ≤ℤ s → pos 0 ≤ℤ t →
      (squared_length (mixed s t d h) *ℤ (S *ℤ S)) ≤ℤ (squared_length d *ℤ ((s *ℤ S +ℤ t *ℤ D) *ℤ (s *ℤ S +ℤ t *ℤ D)))

-- an order by a known difference
pub le_by_difference : (a b r : ℤ) → b -ℤ a ≡ r → pos 0 ≤ℤ r → a ≤ℤ b
le_by_difference a b r e h = le_from_nonneg a b (subst (λ (z : ℤ). pos 0 ≤ℤ z) (sym e) h)

-- the square of the part of d across n
across_nonneg : (S m : ℤ) (d n : V3) → dot_product d n ≡ S *ℤ m → pos 0 ≤ℤ (squared_length n *ℤ squared_length d -ℤ (S *ℤ m) *ℤ (S *ℤ m))
across_nonneg S m d n e = subst (λ (z : ℤ). pos 0 ≤ℤ (squared_length n *ℤ squared_length d -ℤ z *ℤ z)) e (cauchy d n)

-- the distance of the foot is a bound
pub foot_under : (S m : ℤ) (d n : V3) → dot_product d n ≡ S *ℤ m → IsUnder (m *ℤ m) (squared_length n) S (squared_length d)
foot_under S m d n e = record { under = le_from_nonneg _ _ (rw turned (across_nonneg S m d n e)) }
  where
    turned : squared_length n *ℤ squared_length d -ℤ (m *ℤ m) *ℤ (S *ℤ S) ≡ squared_length n *ℤ squared_length d -ℤ (S *ℤ m) *ℤ (S *ℤ m)
    turned = ring (S ∷ m ∷ (squared_length n *ℤ squared_length d) ∷ []) (v 2 ⊖ (v 1 ⊗ v 1) ⊗ (v 0 ⊗ v 0)) (v 2 ⊖ (v 0 ⊗ v 1) ⊗ (v 0 ⊗ v 1)) tt

-- with the squares dd of d and nn of n, and their product dn
pub squared-moved : (s t m : ℤ) (d n : V3) → squared_length (mixed s t d (multiple m n)) ≡ (s *ℤ s) *ℤ squared_length d +ℤ (pos 2 *ℤ (s *ℤ (t *ℤ m))) *ℤ dot_product d n +ℤ (t *ℤ m) *ℤ (t *ℤ m) *ℤ squared_length n
squared-moved s t m d n =
    let moved = v 0 ⊗₃ at 3 ⊕₃ v 1 ⊗₃ (v 2 ⊗₃ at 6) in
    ring (s ∷ t ∷ m ∷ components (d ∷ n ∷ [])) (dot moved moved)
    ((v 0 ⊗ v 0) ⊗ dot (at 3) (at 3) ⊕ (num (pos 2) ⊗ (v 0 ⊗ (v 1 ⊗ v 2))) ⊗ dot (at 3) (at 6) ⊕ (v 1 ⊗ v 2) ⊗ (v 1 ⊗ v 2) ⊗ dot (at 6) (at 6)) tt

never_rises : (s t S m dd nn dn : ℤ) → pos 0 ≤ℤ s → pos 0 ≤ℤ t → pos 0 ≤ℤ S → pos 0 ≤ℤ nn → dn ≡ S *ℤ m → pos 0 ≤ℤ (nn *ℤ dd -ℤ (S *ℤ m) *ℤ (S *ℤ m)) →
    (((s *ℤ s) *ℤ dd +ℤ (pos 2 *ℤ (s *ℤ (t *ℤ m))) *ℤ dn +ℤ (t *ℤ m) *ℤ (t *ℤ m) *ℤ nn) *ℤ (S *ℤ S)) ≤ℤ (dd *ℤ ((s *ℤ S +ℤ t *ℤ nn) *ℤ (s *ℤ S +ℤ t *ℤ nn)))
never_rises s t S m dd nn dn hs ht hS hn e far = le_by_difference _ _ _ split (mul_nonneg_ℤ _ _ shares far)
  where
    shares : pos 0 ≤ℤ (pos 2 *ℤ ((s *ℤ t) *ℤ S) +ℤ (t *ℤ t) *ℤ nn)
    shares = add_nonneg_ℤ _ _ (twice-nonneg _ (mul_nonneg_ℤ _ S (mul_nonneg_ℤ s t hs ht) hS)) (mul_nonneg_ℤ _ _ (sq_nonneg_ℤ t) hn)

    split : dd *ℤ ((s *ℤ S +ℤ t *ℤ nn) *ℤ (s *ℤ S +ℤ t *ℤ nn)) -ℤ ((s *ℤ s) *ℤ dd +ℤ (pos 2 *ℤ (s *ℤ (t *ℤ m))) *ℤ dn +ℤ (t *ℤ m) *ℤ (t *ℤ m) *ℤ nn) *ℤ (S *ℤ S)
        ≡ (pos 2 *ℤ ((s *ℤ t) *ℤ S) +ℤ (t *ℤ t) *ℤ nn) *ℤ (nn *ℤ dd -ℤ (S *ℤ m) *ℤ (S *ℤ m))
    split =
        ring_by (s ∷ t ∷ S ∷ m ∷ dd ∷ nn ∷ dn ∷ [])
        (v 4 ⊗ ((v 0 ⊗ v 2 ⊕ v 1 ⊗ v 5) ⊗ (v 0 ⊗ v 2 ⊕ v 1 ⊗ v 5)) ⊖ ((v 0 ⊗ v 0) ⊗ v 4 ⊕ (num (pos 2) ⊗ (v 0 ⊗ (v 1 ⊗ v 3))) ⊗ v 6 ⊕ (v 1 ⊗ v 3) ⊗ (v 1 ⊗ v 3) ⊗ v 5) ⊗ (v 2 ⊗ v 2))
        ((num (pos 2) ⊗ ((v 0 ⊗ v 1) ⊗ v 2) ⊕ (v 1 ⊗ v 1) ⊗ v 5) ⊗ (v 5 ⊗ v 4 ⊖ (v 2 ⊗ v 3) ⊗ (v 2 ⊗ v 3)))
        (neg (num (pos 2) ⊗ v 0 ⊗ v 1 ⊗ v 3 ⊗ (v 2 ⊗ v 2)))
        (v 6) (v 2 ⊗ v 3) e tt

-- towards the foot, m·n, the distance never rises
pub foot_leads : (S m : ℤ) (d n : V3) → pos 0 ≤ℤ S → dot_product d n ≡ S *ℤ m → Leads S (squared_length n) d (multiple m n)
foot_leads S m d n hS e = record {
  nearer = λ s t hs ht. subst (λ (z : ℤ). (z *ℤ (S *ℤ S)) ≤ℤ (squared_length d *ℤ ((s *ℤ S +ℤ t *ℤ squared_length n) *ℤ (s *ℤ S +ℤ t *ℤ squared_length n)))) (sym (squared-moved s t m d n))
      (never_rises s t S m (squared_length d) (squared_length n) (dot_product d n) hs ht hS (squared-nonneg n) e (across_nonneg S m d n e));
}
