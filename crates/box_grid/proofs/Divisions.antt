-- A division by a side doesn't turn the order.
use Rattle.std.proofs.Common.{ℕ, ◌/◌, ◌<◌, ◌≤◌, arith}
use Rattle.std.proofs.lemmas.Nat.{le-div, div-add-mod'}

pub div_keeps_order : (a b side : ℕ) → 0 < side → a ≤ b → a / side ≤ b / side
div_keeps_order a b side s h = le-div (a / side) b side s (omega (arith, div-add-mod' a side))
