-- Ranges of whole numbers.
use Rattle.std.specs.Prelude.{ℤ, ◌≤ℤ◌}

-- at least the one and at most the other
pub record IsFrom (least most n : ℤ) : Type 0 where
  pub low : least ≤ℤ n
  pub high : n ≤ℤ most
