-- Greater numbers have no smaller logarithms.
use Rattle.std.proofs.Common.{ℕ, zero, suc, ◌*◌, ◌/◌, ◌^◌, ◌<◌, ◌≤◌, arith, inl, inr, mul-le-mul}
use Rattle.std.proofs.Math.Nat.{two-pow-succ, pow-zero}
use Rattle.std.proofs.lemmas.Bool.{cases_lt}
use Rattle.fixed_log.specs.Logarithm.{lg_bits}
use Rattle.fixed_log.proofs.Bits.{lg_bits-zero, lg_bits-high, lg_bits-low}

-- n bits add up to less than 2 ^ n
pub lg_bits-lt : (n y : ℕ) → lg_bits n y < 2 ^ n
lg_bits-lt zero y = omega (arith, lg_bits-zero y, pow-zero 2)
lg_bits-lt (suc n) y =
    let z = y * y / 2 ^ 61 in
    elim (cases_lt z (2 ^ 62)) [
      | inl low ↦ let a = lg_bits-low n y low in omega (arith, a, lg_bits-lt n z, two-pow-succ n)
      | inr high ↦ let a = lg_bits-high n y high in omega (arith, a, lg_bits-lt n (z / 2), two-pow-succ n)
    ]

quotient_up : (a b c : ℕ) → a ≤ b → a / 2 ^ 61 ≤ b / 2 ^ 61
quotient_up a b c h = omega arith

half_up : (a b : ℕ) → a ≤ b → a / 2 ≤ b / 2
half_up a b h = omega arith

pub lg_bits-up : (n y x : ℕ) → y ≤ x → lg_bits n y ≤ lg_bits n x
lg_bits-up zero y x h = omega (arith, lg_bits-zero y, lg_bits-zero x)
lg_bits-up (suc n) y x h =
    let z = y * y / 2 ^ 61 in
    let w = x * x / 2 ^ 61 in
    let up : z ≤ w = quotient_up (y * y) (x * x) 0 (mul-le-mul h h) in
    elim (cases_lt z (2 ^ 62)) [
      | inl low ↦ elim (cases_lt w (2 ^ 62)) [
        | inl lower ↦ omega (arith, lg_bits-low n y low, lg_bits-low n x lower, lg_bits-up n z w up)
        | inr higher ↦ omega (arith, lg_bits-low n y low, lg_bits-high n x higher, lg_bits-lt n z)
      ]
      | inr high ↦ omega (arith, lg_bits-high n y high, lg_bits-high n x (omega arith), lg_bits-up n (z / 2) (w / 2) (half_up z w up))
    ]
