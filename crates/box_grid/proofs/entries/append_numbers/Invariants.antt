use Rattle.std.proofs.Common.{◌≡◌, ◌++◌, map, take}
use Rattle.box_grid.specs.Calls.Cells.{number}
use Rattle.box_grid.proofs.entries.append_numbers.Given as goal

abbrev pub invariant-loop-key : goal.invariant-loop-key
invariant-loop-key l = l.numbers.items ≡ l.initial.numbers.items ++ map (λ key. number key l.item) (take l.key-index l.keys)
