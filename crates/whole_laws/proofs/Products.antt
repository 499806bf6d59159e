-- Products of numbers in an order.
use Rattle.std.proofs.Common.{◌≡◌, ℤ, pos, [], ◌∷◌, ◌-ℤ◌, ◌*ℤ◌, ◌≤ℤ◌, subst, arith}
use Rattle.std.proofs.lemmas.Int.{ints}
use Rattle.whole_laws.proofs.Order.{mul_nonneg_ℤ, nonneg_from_le, le_from_nonneg}
use Rattle.whole_laws.proofs.Ring.{ring, v, ◌⊖◌, ◌⊗◌}

-- an order times a number that is not negative
pub scale_le_ℤ : (k a b : ℤ) → pos 0 ≤ℤ k → a ≤ℤ b → (k *ℤ a) ≤ℤ (k *ℤ b)
scale_le_ℤ k a b hk h = le_from_nonneg (k *ℤ a) (k *ℤ b) (subst (λ (z : ℤ). pos 0 ≤ℤ z) (ring (k ∷ a ∷ b ∷ []) (v 0 ⊗ (v 2 ⊖ v 1)) (v 0 ⊗ v 2 ⊖ v 0 ⊗ v 1) tt) (mul_nonneg_ℤ k (b -ℤ a) hk (nonneg_from_le a b h)))

-- an order times another, of numbers that are not negative
pub mul_le_ℤ : (a b c d : ℤ) → pos 0 ≤ℤ a → a ≤ℤ b → pos 0 ≤ℤ c → c ≤ℤ d → (a *ℤ c) ≤ℤ (b *ℤ d)
mul_le_ℤ a b c d ha hab hc hcd = through (a *ℤ c) (a *ℤ d) (b *ℤ d) (scale_le_ℤ a c d ha hcd) (rw (commuted a d, commuted b d) (scale_le_ℤ d a b (above c d hc hcd) hab))
  where
    through : (x y z : ℤ) → x ≤ℤ y → y ≤ℤ z → x ≤ℤ z
    through x y z h k = omega (arith, ints)

    above : (c d : ℤ) → pos 0 ≤ℤ c → c ≤ℤ d → pos 0 ≤ℤ d
    above c d h k = omega (arith, ints)

    commuted : (x y : ℤ) → x *ℤ y ≡ y *ℤ x
    commuted x y = ring (x ∷ y ∷ []) (v 0 ⊗ v 1) (v 1 ⊗ v 0) tt
