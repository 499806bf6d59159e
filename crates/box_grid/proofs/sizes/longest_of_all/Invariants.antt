use Rattle.std.proofs.Common.{◌≤◌, take}
use Rattle.std.specs.Prelude.{All}
use Rattle.box_grid.specs.Calls.Cells.{longest_side}
use Rattle.box_grid.proofs.sizes.longest_of_all.Given as goal

abbrev pub invariant-loop-around : goal.invariant-loop-around
invariant-loop-around l = All (λ b. longest_side b ≤ l.longest) (take l.around-index l.boxes)
