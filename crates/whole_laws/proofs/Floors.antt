-- Division rounded down by a positive divisor.
use Rattle.std.proofs.Common.{◌≡◌, ℕ, zero, suc, ◌^◌, ◌≤◌, ℤ, pos, negsuc, [], ◌∷◌, ◌+ℤ◌, ◌-ℤ◌, ◌*ℤ◌, ◌≤ℤ◌, ◌<ℤ◌, unsigned_abs, refl, sym, arith}
use Rattle.std.proofs.lemmas.Int.{ints, by_lt_z}
use Rattle.std.specs.Int.{int_shr, int_div_euclid}
use Rattle.whole_laws.proofs.Order.{mul_nonneg_ℤ}
use Rattle.whole_laws.proofs.Ring.{ring, v, num, ◌⊖◌, ◌⊗◌}

-- a shift to the right is a division by a power of two, rounded down
pub shr-is : (z : ℤ) (k : ℕ) → int_shr z k ≡ int_div_euclid z (pos (2 ^ k))
shr-is (pos a) k = refl
shr-is (negsuc a) k = refl

-- a quotient is no greater than what is divided
pub floor_size : (z d : ℤ) → pos 0 <ℤ d → unsigned_abs (int_div_euclid z d) ≤ unsigned_abs z
floor_size (pos a) (pos zero) h = absurd (omega (arith, ints))
floor_size (pos a) (pos (suc b)) h = omega arith
floor_size (negsuc a) (pos zero) h = absurd (omega (arith, ints))
floor_size (negsuc a) (pos (suc b)) h = omega arith
floor_size z (negsuc b) h = absurd (omega (arith, ints))

-- q is z / d rounded down
pub record IsFloor (z d q : ℤ) : Type 0 where
  pub low : (d *ℤ q) ≤ℤ z
  pub high : z <ℤ (d *ℤ q +ℤ d)

-- division by a positive divisor rounds down
pub floor_law : (z d : ℤ) → pos 0 <ℤ d → IsFloor z d (int_div_euclid z d)
floor_law (pos a) (pos zero) h = absurd (omega (arith, ints))
floor_law (pos a) (pos (suc b)) h = record { low = omega (arith, ints); high = omega (arith, ints) }
floor_law (negsuc a) (pos zero) h = absurd (omega (arith, ints))
floor_law (negsuc a) (pos (suc b)) h = record { low = omega (arith, ints); high = omega (arith, ints) }
floor_law z (negsuc b) h = absurd (omega (arith, ints))

-- a whole number whose multiple is not above z is not above the quotient
pub floor_least : (z d q : ℤ) → pos 0 <ℤ d → (d *ℤ q) ≤ℤ z → q ≤ℤ int_div_euclid z d
floor_least z d q h k =
    let f = floor_law z d h in
    by_lt_z (int_div_euclid z d) q (λ below. absurd (clash (d *ℤ int_div_euclid z d) (d *ℤ q) (rw (sym split) (mul_nonneg_ℤ d (q -ℤ int_div_euclid z d -ℤ pos 1) (not_below d h) (more _ _ below))) f.high k)) (λ above. above)
  where
    not_below : (d : ℤ) → pos 0 <ℤ d → pos 0 ≤ℤ d
    not_below d h = omega (arith, ints)

    more : (f q : ℤ) → f <ℤ q → pos 0 ≤ℤ (q -ℤ f -ℤ pos 1)
    more f q h = omega (arith, ints)

    split : d *ℤ (q -ℤ int_div_euclid z d -ℤ pos 1) ≡ d *ℤ q -ℤ d *ℤ int_div_euclid z d -ℤ d
    split = ring (d ∷ q ∷ int_div_euclid z d ∷ []) (v 0 ⊗ (v 1 ⊖ v 2 ⊖ num (pos 1))) (v 0 ⊗ v 1 ⊖ v 0 ⊗ v 2 ⊖ v 0) tt

    clash : (f m : ℤ) → pos 0 ≤ℤ (m -ℤ f -ℤ d) → z <ℤ (f +ℤ d) → m ≤ℤ z → ⊥
    clash f m l n o = omega (arith, ints)

-- a whole number whose multiple is above z is above the quotient
pub floor_below : (z d q : ℤ) → pos 0 <ℤ d → z <ℤ (d *ℤ q) → int_div_euclid z d <ℤ q
floor_below z d q h k =
    let f = floor_law z d h in
    by_lt_z (int_div_euclid z d) q (λ below. below) (λ above. absurd (clash (d *ℤ int_div_euclid z d) (d *ℤ q) (rw (sym split) (mul_nonneg_ℤ d (int_div_euclid z d -ℤ q) (not_below d h) (more _ _ above))) f.low k))
  where
    not_below : (d : ℤ) → pos 0 <ℤ d → pos 0 ≤ℤ d
    not_below d h = omega (arith, ints)

    more : (f q : ℤ) → q ≤ℤ f → pos 0 ≤ℤ (f -ℤ q)
    more f q h = omega (arith, ints)

    split : d *ℤ (int_div_euclid z d -ℤ q) ≡ d *ℤ int_div_euclid z d -ℤ d *ℤ q
    split = ring (d ∷ q ∷ int_div_euclid z d ∷ []) (v 0 ⊗ (v 2 ⊖ v 1)) (v 0 ⊗ v 2 ⊖ v 0 ⊗ v 1) tt

    clash : (f m : ℤ) → pos 0 ≤ℤ (f -ℤ m) → f ≤ℤ z → z <ℤ m → ⊥
    clash f m l n o = omega (arith, ints)

-- the quotient of a number that is not negative
pub floor_nonneg : (z d : ℤ) → pos 0 <ℤ d → pos 0 ≤ℤ z → pos 0 ≤ℤ int_div_euclid z d
floor_nonneg z d h k = floor_least z d (pos 0) h (rw (ring (d ∷ []) (v 0 ⊗ num (pos 0)) (num (pos 0)) tt) k)

-- the quotient of a number that is not positive
pub floor_nonpos : (z d : ℤ) → pos 0 <ℤ d → z ≤ℤ pos 0 → int_div_euclid z d ≤ℤ pos 0
floor_nonpos z d h k = below_one (floor_below z d (pos 1) h (rw (ring (d ∷ []) (v 0 ⊗ num (pos 1)) (v 0) tt) (below z d h k)))
  where
    below : (z d : ℤ) → pos 0 <ℤ d → z ≤ℤ pos 0 → z <ℤ d
    below z d h k = omega (arith, ints)

    below_one : {q : ℤ} → q <ℤ pos 1 → q ≤ℤ pos 0
    below_one h = omega (arith, ints)

-- quotients by one divisor are in the order of what is divided
pub floor_mono : (y z d : ℤ) → pos 0 <ℤ d → y ≤ℤ z → int_div_euclid y d ≤ℤ int_div_euclid z d
floor_mono y z d h k = floor_least z d (int_div_euclid y d) h (through _ y z (floor_law y d h).low k)
  where
    through : (a b c : ℤ) → a ≤ℤ b → b ≤ℤ c → a ≤ℤ c
    through a b c h k = omega (arith, ints)
