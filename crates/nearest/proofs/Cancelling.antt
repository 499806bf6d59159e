-- Pulls by weights that add up to 0 cancel but for roundings.
use Rattle.std.proofs.Common.{◌≡◌, ℕ, ◌≤◌, ℤ, pos, negsuc, ◌+ℤ◌, ◌-ℤ◌, ◌*ℤ◌, neg_ℤ, ◌≤ℤ◌, ◌<ℤ◌, List, [], ◌∷◌, map, length, unsigned_abs, refl, sym, ap, subst, arith}
use Rattle.std.proofs.lemmas.Int.{ints, by_lt_z}
use Rattle.std.specs.Prelude.{All}
use Rattle.std.proofs.lemmas.List.Elements.{All-head, All-tail}
use Rattle.num_q.specs.Rounding.{floor_of}
use Rattle.list_laws.proofs.Fours.{four_of}
use Rattle.whole_laws.specs.Ranges.{IsFrom}
use Rattle.whole_laws.proofs.Floors.{floor_law, floor_least, floor_below}
use Rattle.whole_laws.proofs.Order.{mul_nonneg_ℤ, nonneg_of_pos}
use Rattle.whole_laws.proofs.Ring.{ring, ring_by, v, num, neg, ◌⊕◌, ◌⊖◌, ◌⊗◌}
use Rattle.space3.specs.Vectors.{AtMost}
use Rattle.nearest.specs.declared.limits.TheConstants.{ONE}
use Rattle.nearest.specs.RoundedWeights.{total}
use Rattle.nearest.specs.SignedWeights.{AreBalanced}
use Rattle.nearest.proofs.Balance.{total-zero}

-- a whole number whose multiple is between −4 divisors and 0
few : (d s : ℤ) → pos 0 <ℤ d → (d *ℤ s) ≤ℤ pos 0 → pos 0 <ℤ (d *ℤ s +ℤ pos 4 *ℤ d) → IsFrom (negsuc 2) (pos 0) s
few d s hd low high = record {
  low = by_lt_z s (negsuc 2) (λ below. absurd (clash_low (d *ℤ s) d (mul_nonneg_ℤ d (negsuc 3 -ℤ s) (nonneg_of_pos d hd) (under s below)) high)) (λ h. h);
  high = by_lt_z (pos 0) s (λ above. absurd (clash_high (d *ℤ s) d low hd (mul_nonneg_ℤ d (s -ℤ pos 1) (nonneg_of_pos d hd) (over s above)))) (λ h. h);
}
  where
    under : (s : ℤ) → s <ℤ negsuc 2 → pos 0 ≤ℤ (negsuc 3 -ℤ s)
    under s h = omega (arith, ints)

    over : (s : ℤ) → pos 0 <ℤ s → pos 0 ≤ℤ (s -ℤ pos 1)
    over s h = omega (arith, ints)

    below_split : d *ℤ (negsuc 3 -ℤ s) ≡ negsuc 3 *ℤ d -ℤ d *ℤ s
    below_split = ring (d ∷ s ∷ []) (v 0 ⊗ (num (negsuc 3) ⊖ v 1)) (num (negsuc 3) ⊗ v 0 ⊖ v 0 ⊗ v 1) tt

    above_split : d *ℤ (s -ℤ pos 1) ≡ d *ℤ s -ℤ d
    above_split = ring (d ∷ s ∷ []) (v 0 ⊗ (v 1 ⊖ num (pos 1))) (v 0 ⊗ v 1 ⊖ v 0) tt

    clash_low : (m e : ℤ) → pos 0 ≤ℤ (d *ℤ (negsuc 3 -ℤ s)) → pos 0 <ℤ (d *ℤ s +ℤ pos 4 *ℤ d) → ⊥
    clash_low m e h k = between (d *ℤ s) d (subst (λ (z : ℤ). pos 0 ≤ℤ z) below_split h) k
      where
        between : (m e : ℤ) → pos 0 ≤ℤ (negsuc 3 *ℤ e -ℤ m) → pos 0 <ℤ (m +ℤ pos 4 *ℤ e) → ⊥
        between m e h k = omega (arith, ints)

    clash_high : (m e : ℤ) → (d *ℤ s) ≤ℤ pos 0 → pos 0 <ℤ d → pos 0 ≤ℤ (d *ℤ (s -ℤ pos 1)) → ⊥
    clash_high m e h k l = between (d *ℤ s) d h k (subst (λ (z : ℤ). pos 0 ≤ℤ z) above_split l)
      where
        between : (m e : ℤ) → m ≤ℤ pos 0 → pos 0 <ℤ e → pos 0 ≤ℤ (m -ℤ e) → ⊥
        between m e h k l = omega (arith, ints)

-- four numbers that add up to 0, each over d and rounded down
four_floors : (d a b c e : ℤ) → pos 0 <ℤ d → a +ℤ (b +ℤ (c +ℤ (e +ℤ pos 0))) ≡ pos 0 → IsFrom (negsuc 2) (pos 0) (floor_of a d +ℤ (floor_of b d +ℤ (floor_of c d +ℤ (floor_of e d +ℤ pos 0))))
four_floors d a b c e hd sum =
    let f = floor_law a d hd in
    let g = floor_law b d hd in
    let h = floor_law c d hd in
    let k = floor_law e d hd in
    few d _ hd (subst (λ (z : ℤ). z ≤ℤ pos 0) (sym split) (low _ _ _ _ a b c e f.low g.low h.low k.low sum)) (subst (λ (z : ℤ). pos 0 <ℤ (z +ℤ pos 4 *ℤ d)) (sym split) (high _ _ _ _ a b c e f.high g.high h.high k.high sum))
  where
    split : d *ℤ (floor_of a d +ℤ (floor_of b d +ℤ (floor_of c d +ℤ (floor_of e d +ℤ pos 0)))) ≡ d *ℤ floor_of a d +ℤ (d *ℤ floor_of b d +ℤ (d *ℤ floor_of c d +ℤ d *ℤ floor_of e d))
    split =
        ring (d ∷ floor_of a d ∷ floor_of b d ∷ floor_of c d ∷ floor_of e d ∷ [])
        (v 0 ⊗ (v 1 ⊕ (v 2 ⊕ (v 3 ⊕ (v 4 ⊕ num (pos 0)))))) (v 0 ⊗ v 1 ⊕ (v 0 ⊗ v 2 ⊕ (v 0 ⊗ v 3 ⊕ v 0 ⊗ v 4))) tt

    low : (p q r s a b c e : ℤ) → p ≤ℤ a → q ≤ℤ b → r ≤ℤ c → s ≤ℤ e → a +ℤ (b +ℤ (c +ℤ (e +ℤ pos 0))) ≡ pos 0 → (p +ℤ (q +ℤ (r +ℤ s))) ≤ℤ pos 0
    low p q r s a b c e f g h k t = omega (arith, ints)

    high : (p q r s a b c e : ℤ) → a <ℤ (p +ℤ d) → b <ℤ (q +ℤ d) → c <ℤ (r +ℤ d) → e <ℤ (s +ℤ d) → a +ℤ (b +ℤ (c +ℤ (e +ℤ pos 0))) ≡ pos 0 → pos 0 <ℤ ((p +ℤ (q +ℤ (r +ℤ s))) +ℤ pos 4 *ℤ d)
    high p q r s a b c e f g h k t = omega (arith, ints)

-- a number times each weight, over d and rounded down
abbrev pub shared : ℤ → ℤ → ℤ → ℤ
shared d k w = floor_of (k *ℤ w) d

pub shares_cancel : (d k : ℤ) (weights : List ℤ) → pos 0 <ℤ d → length weights ≡ 4 → AreBalanced weights → IsFrom (negsuc 2) (pos 0) (total (map (shared d k) weights))
shares_cancel d k weights hd four balanced = by_four (four_of weights four)
  where
    none : (a b c e : ℤ) → a +ℤ (b +ℤ (c +ℤ (e +ℤ pos 0))) ≡ pos 0 → k *ℤ a +ℤ (k *ℤ b +ℤ (k *ℤ c +ℤ (k *ℤ e +ℤ pos 0))) ≡ pos 0
    none a b c e zero =
        ring_by (k ∷ a ∷ b ∷ c ∷ e ∷ [])
        (v 0 ⊗ v 1 ⊕ (v 0 ⊗ v 2 ⊕ (v 0 ⊗ v 3 ⊕ (v 0 ⊗ v 4 ⊕ num (pos 0))))) (num (pos 0))
        (v 0) (v 1 ⊕ (v 2 ⊕ (v 3 ⊕ (v 4 ⊕ num (pos 0))))) (num (pos 0)) zero tt

    by_four : (a : ℤ) × (b : ℤ) × (c : ℤ) × (e : ℤ) × (weights ≡ a ∷ b ∷ c ∷ e ∷ []) → IsFrom (negsuc 2) (pos 0) (total (map (shared d k) weights))
    by_four (a, b, c, e, at) =
        let zero = total-zero (a ∷ b ∷ c ∷ e ∷ []) (subst AreBalanced at balanced) in
        subst (λ ws. IsFrom (negsuc 2) (pos 0) (total (map (shared d k) ws))) (sym at) (four_floors d (k *ℤ a) (k *ℤ b) (k *ℤ c) (k *ℤ e) hd (none a b c e zero))

-- functions that agree on weights of at most 1
pub same-total : (f g : ℤ → ℤ) (weights : List ℤ) → ((w : ℤ) → unsigned_abs w ≤ 65536 → f w ≡ g w) → All (AtMost ONE) weights → total (map f weights) ≡ total (map g weights)
same-total f g [] same h = refl
same-total f g (w ∷ ws) same h = λ i. same w (All-head (AtMost ONE) w ws h).bound i +ℤ same-total f g ws same (All-tail (AtMost ONE) w ws h) i

-- a quotient by a power of two of a number that is not too great
pub quotient_size : (m : ℕ) (z d : ℤ) → pos 0 <ℤ d → (neg_ℤ (pos m) *ℤ d) ≤ℤ z → z ≤ℤ (pos m *ℤ d) → unsigned_abs (floor_of z d) ≤ m
quotient_size m z d hd low high = size _ (floor_least z d (neg_ℤ (pos m)) hd (subst (λ (y : ℤ). y ≤ℤ z) (ring (d ∷ pos m ∷ []) (neg (v 1) ⊗ v 0) (v 0 ⊗ neg (v 1)) tt) low)) (floor_below z d (pos m +ℤ pos 1) hd (below _ _ high hd more))
  where
    size : (q : ℤ) → neg_ℤ (pos m) ≤ℤ q → q <ℤ (pos m +ℤ pos 1) → unsigned_abs q ≤ m
    size q h k = omega (arith, ints)

    below : (a b : ℤ) → z ≤ℤ a → pos 0 <ℤ d → a +ℤ d ≡ b → z <ℤ b
    below a b h k e = omega (arith, ints)

    more : pos m *ℤ d +ℤ d ≡ d *ℤ (pos m +ℤ pos 1)
    more = ring (d ∷ pos m ∷ []) (v 1 ⊗ v 0 ⊕ v 0) (v 0 ⊗ (v 1 ⊕ num (pos 1))) tt

-- the sum along an axis of what is made of each weight
pub total-along : {A : Type 0} (axis : A → ℤ) (f : ℤ → A) (weights : List ℤ) → total (map axis (map f weights)) ≡ total (map (λ w. axis (f w)) weights)
total-along axis f [] = refl
total-along axis f (w ∷ ws) = ap (λ t. axis (f w) +ℤ t) (total-along axis f ws)
