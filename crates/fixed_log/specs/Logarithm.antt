-- The logarithm to base 2 with 24 bits behind the point, by squaring.
use Rattle.std.specs.Prelude.{ℕ, zero, suc, ◌+◌, ◌-◌, ◌*◌, ◌/◌, ◌^◌, true, false, nat_le, if◌then◌else◌, ℤ, pos, ◌-ℤ◌, ◌*ℤ◌}
use Rattle.std.specs.Int.{leading_zeros, w128, int_div_euclid}
use Rattle.whole_laws.specs.Ranges.{IsFrom}
use Rattle.fixed_log.specs.declared.logarithm.TheConstants.{ARGUMENT_BITS, LN_2}

-- What n bits add, the first of them worth 2 ^ (n - 1). y stands for y / 2 ^ 61, a number from 1 below 2; it is squared, and
-- where its square is 2 or more the bit counts and the square is halved.
unfoldable pub lg_bits : ℕ → ℕ → ℕ
lg_bits zero y = 0
lg_bits (suc n) y =
    let z = y * y / 2 ^ 61 in
    elim (nat_le (2 ^ 62) z) [ true ↦ 2 ^ n + lg_bits n (z / 2) | false ↦ lg_bits n z ]

-- the place of the highest bit of m: 2 ^ whole_lg m ≤ m < 2 ^ (whole_lg m + 1)
unfoldable pub whole_lg : ℕ → ℕ
whole_lg m = 127 - leading_zeros w128 m

-- m / 2 ^ k with 61 bits behind the point, rounded down
abbrev pub mantissa : ℕ → ℕ → ℕ
mantissa m k = if nat_le k 61 then m * 2 ^ (61 - k) else m / 2 ^ (k - 61)

-- the logarithm of m times 2 ^ 24
unfoldable pub lg_of : ℕ → ℕ
lg_of m = whole_lg m * 2 ^ 24 + lg_bits 24 (mantissa m (whole_lg m))

-- a number that may be the logarithm of an argument
abbrev pub IsLogarithm : ℤ → Type 0
IsLogarithm = IsFrom (pos 0) (pos (ARGUMENT_BITS * 2 ^ 24))

-- the natural logarithm of a / b times 2 ^ 24, where ln 2 is LN_2 / 2 ^ 32, rounded down
unfoldable pub ln_ratio_of : ℕ → ℕ → ℤ
ln_ratio_of a b = int_div_euclid ((pos (lg_of a) -ℤ pos (lg_of b)) *ℤ LN_2) (pos (2 ^ 32))

-- m to the power that the logarithm's law speaks of. It is named, so that no check computes it of a literal.
unfoldable pub great_power : ℕ → ℕ
great_power m = m ^ (2 ^ 24)
