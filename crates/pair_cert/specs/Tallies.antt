-- How far a count of plane decisions rises.
use Rattle.std.specs.Prelude.{◌≡◌, ℕ, ◌+◌, ◌-◌, ◌^◌, ◌≤◌, min}

-- the count goes up by at most so many; at the last value of its type it stays
pub record RisesAtMost (most old new : ℕ) : Type 0 where
  pub by : ℕ
  pub few : by ≤ most
  pub risen : new ≡ min (old + by) (2 ^ 64 - 1)

-- how many intervals there are in all, where a step is halved down to a depth
abbrev pub intervals_within : ℕ → ℕ
intervals_within depth = 2 ^ (depth + 1) - 1
