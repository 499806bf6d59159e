-- Counts that rise while a list grows.
use Rattle.std.proofs.Common.{ℕ, ◌≤◌, arith}
use Rattle.broad_grid.specs.Calls.Counts.{HasCounted}

-- one stretch and then another
pub counted_on : (a b c short middle long : ℕ) → b ≤ c → HasCounted a b short middle → HasCounted b c middle long → HasCounted a c short long
counted_on a b c short middle long up h k = record { each = omega (arith, up, h.each, k.each) }
