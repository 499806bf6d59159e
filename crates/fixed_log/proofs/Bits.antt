-- One bit of the logarithm, and what the bits add up to.
use Rattle.std.proofs.Common.{◌≡◌, ℕ, zero, suc, ◌+◌, ◌-◌, ◌*◌, ◌/◌, ◌^◌, ◌<◌, ◌≤◌, Bool, true, false, leb, refl, ap, subst, arith, ◌%◌, inl, inr}
use Rattle.std.proofs.lemmas.Bool.{le-leb, cases_lt}
use Rattle.std.proofs.lemmas.Bool.Decides.{nat_tests}
use Rattle.std.proofs.lemmas.Nat.{one_shl}
use Rattle.fixed_log.specs.Logarithm.{lg_bits}

pub lg_bits-zero : (y : ℕ) → lg_bits zero y ≡ 0
unfolding lg_bits
lg_bits-zero y = refl

by_test : (n z : ℕ) (b : Bool) → leb (2 ^ 62) z ≡ b → elim (leb (2 ^ 62) z) as (λ _. ℕ) [ true ↦ 2 ^ n + lg_bits n (z / 2) | false ↦ lg_bits n z ] ≡ elim b as (λ _. ℕ) [ true ↦ 2 ^ n + lg_bits n (z / 2) | false ↦ lg_bits n z ]
by_test n z b t = ap (λ (c : Bool). elim c as (λ _. ℕ) [ true ↦ 2 ^ n + lg_bits n (z / 2) | false ↦ lg_bits n z ]) t

-- the bit counts
pub lg_bits-high : (n y : ℕ) → 2 ^ 62 ≤ y * y / 2 ^ 61 → lg_bits (suc n) y ≡ 2 ^ n + lg_bits n (y * y / 2 ^ 61 / 2)
unfolding lg_bits
lg_bits-high n y h = by_test n (y * y / 2 ^ 61) true (le-leb (2 ^ 62) (y * y / 2 ^ 61) h)

-- it doesn't
pub lg_bits-low : (n y : ℕ) → y * y / 2 ^ 61 < 2 ^ 62 → lg_bits (suc n) y ≡ lg_bits n (y * y / 2 ^ 61)
unfolding lg_bits
lg_bits-low n y h = by_test n (y * y / 2 ^ 61) false (is_false (2 ^ 62) (y * y / 2 ^ 61) h)
  where
    is_false : (a b : ℕ) → b < a → leb a b ≡ false
    is_false a b h = grind (arith, nat_tests)

-- ---- the bit of one turn of 24
turn-high : (t y z : ℕ) → t < 24 → z ≡ y * y / 2 ^ 61 → 2 ^ 62 ≤ z → lg_bits (24 - t) y ≡ 2 ^ (23 - t) + lg_bits (24 - (t + 1)) (z / 2)
turn-high t y z h e k =
    let a : 24 - (t + 1) ≡ 23 - t = omega arith in
    let b : 24 - t ≡ suc (23 - t) = omega arith in
    rw (a, b, e) (lg_bits-high (23 - t) y (subst (λ x. 2 ^ 62 ≤ x) e k))

turn-low : (t y z : ℕ) → t < 24 → z ≡ y * y / 2 ^ 61 → z < 2 ^ 62 → lg_bits (24 - t) y ≡ lg_bits (24 - (t + 1)) z
turn-low t y z h e k =
    let a : 24 - (t + 1) ≡ 23 - t = omega arith in
    let b : 24 - t ≡ suc (23 - t) = omega arith in
    rw (a, b, e) (lg_bits-low (23 - t) y (subst (λ x. x < 2 ^ 62) e k))

-- the bit as the program shifts it
shifted_bit : (t : ℕ) → t < 24 → (1 * 2 ^ (23 - t)) % 2 ^ 64 ≡ 2 ^ (23 - t)
shifted_bit t h = one_shl (23 - t) 64 (omega arith)

-- one turn as the program makes it: b is the highest bit of the square z
pub turn : (t y z b : ℕ) → t < 24 → z ≡ y * y / 2 ^ 61 → z < 2 ^ 63 → b ≡ z / 2 ^ 62 → lg_bits (24 - t) y ≡ (b * 2 ^ (23 - t)) % 2 ^ 64 + lg_bits (24 - (t + 1)) (z / 2 ^ b)
turn t y z b h e l f = elim (cases_lt z (2 ^ 62)) [
  | inl low ↦
      let none : b ≡ 0 = omega arith in
      let same : z / 2 ^ 0 ≡ z = omega arith in
      rw (none, same) (omega (arith, turn-low t y z h e low))
  | inr high ↦
      let one : b ≡ 1 = omega arith in
      rw one (omega (arith, turn-high t y z h e high, shifted_bit t h))
]

pub turn_below : (z b : ℕ) → z < 2 ^ 63 → b ≡ z / 2 ^ 62 → z / 2 ^ b < 2 ^ 62
turn_below z b l f = elim (cases_lt z (2 ^ 62)) [
  | inl low ↦ let none : b ≡ 0 = omega arith in rw none (omega arith)
  | inr high ↦ let one : b ≡ 1 = omega arith in rw one (omega arith)
]
