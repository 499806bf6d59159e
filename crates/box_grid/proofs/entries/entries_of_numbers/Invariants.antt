use Rattle.std.proofs.Common.{◌≡◌, map, take}
use Rattle.box_grid.specs.Calls.Cells.{entry_of}
use Rattle.box_grid.proofs.entries.entries_of_numbers.Given as goal

abbrev pub invariant-loop-number : goal.invariant-loop-number
invariant-loop-number l = l.entries.items ≡ map (entry_of l.boxes) (take l.number-index l.numbers)
