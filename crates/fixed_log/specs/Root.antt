-- The root of a whole number, rounded down.
use Rattle.std.specs.Prelude.{ℕ, zero, suc, ◌+◌, ◌*◌, ◌^◌, ◌≤◌, nat_le, if◌then◌else◌}

-- r is the greatest number whose square is at most n
pub record IsRoot (n r : ℕ) : Type 0 where
  pub at_most : r * r ≤ n
  pub greatest : (s : ℕ) → s * s ≤ n → s ≤ r

-- the root of n by its bits below 2 ^ k, from the highest on: r is what the higher bits make
unfoldable pub root_by_bits : ℕ → ℕ → ℕ → ℕ
root_by_bits zero r n = r
root_by_bits (suc k) r n = if nat_le ((r + 2 ^ k) * (r + 2 ^ k)) n then root_by_bits k (r + 2 ^ k) n else root_by_bits k r n

-- the root of a number below 2 ^ 126
abbrev pub root_of : ℕ → ℕ
root_of n = root_by_bits 63 0 n
