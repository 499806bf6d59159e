-- What is added to a count while a list grows.
use Rattle.std.specs.Prelude.{ℕ, ◌+◌, ◌-◌, ◌^◌, ◌≤◌, min}

-- The count rose by one or more for each element by which the list grew, or stands at the end of its type.
pub record HasCounted (before after short long : ℕ) : Type 0 where
  pub each : min (before + long) (2 ^ 64 - 1 + short) ≤ after + short
