-- Quotients that are whole.
use Rattle.std.proofs.Common.{◌≡◌, ℤ, pos, ◌+ℤ◌, ◌-ℤ◌, ◌*ℤ◌, ◌≤ℤ◌, ◌<ℤ◌, [], ◌∷◌, subst, arith}
use Rattle.std.proofs.lemmas.Int.{ints}
use Rattle.std.specs.Int.{int_div_euclid}
use Rattle.whole_laws.proofs.Floors.{floor_law}
use Rattle.whole_laws.proofs.Order.{nonneg_of_mul_ℤ, pos_of_mul_ℤ}
use Rattle.whole_laws.proofs.Ring.{ring, v, num, ◌⊕◌, ◌⊖◌, ◌⊗◌}

-- a multiple of a divisor over it
pub floor-multiple : (d q : ℤ) → pos 0 <ℤ d → int_div_euclid (d *ℤ q) d ≡ q
floor-multiple d q h =
    let f = int_div_euclid (d *ℤ q) d in
    let law = floor_law (d *ℤ q) d h in
    let low : d *ℤ q -ℤ d *ℤ f ≡ d *ℤ (q -ℤ f) = ring (d ∷ q ∷ f ∷ []) (v 0 ⊗ v 1 ⊖ v 0 ⊗ v 2) (v 0 ⊗ (v 1 ⊖ v 2)) tt in
    let high : (d *ℤ f +ℤ d) -ℤ d *ℤ q ≡ d *ℤ (f +ℤ pos 1 -ℤ q) = ring (d ∷ q ∷ f ∷ []) ((v 0 ⊗ v 2 ⊕ v 0) ⊖ v 0 ⊗ v 1) (v 0 ⊗ (v 2 ⊕ num (pos 1) ⊖ v 1)) tt in
    same f q
    (nonneg_of_mul_ℤ d (q -ℤ f) h (subst (λ (z : ℤ). pos 0 ≤ℤ z) low (not_above (d *ℤ q) (d *ℤ f) law.low)))
    (pos_of_mul_ℤ d (f +ℤ pos 1 -ℤ q) h (subst (λ (z : ℤ). pos 0 <ℤ z) high (above (d *ℤ q) (d *ℤ f +ℤ d) law.high)))
  where
    not_above : (a b : ℤ) → b ≤ℤ a → pos 0 ≤ℤ (a -ℤ b)
    not_above a b h = omega (arith, ints)

    above : (a b : ℤ) → a <ℤ b → pos 0 <ℤ (b -ℤ a)
    above a b h = omega (arith, ints)

    same : (f q : ℤ) → pos 0 ≤ℤ (q -ℤ f) → pos 0 <ℤ (f +ℤ pos 1 -ℤ q) → f ≡ q
    same f q h k = omega (arith, ints)
