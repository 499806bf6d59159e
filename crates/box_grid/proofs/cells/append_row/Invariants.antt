use Rattle.std.proofs.Common.{◌≡◌, ◌++◌, ◌+◌, map}
use Rattle.std.specs.List.{range_with_len}
use Rattle.box_grid.specs.Calls.Cells.{key_of}
use Rattle.box_grid.proofs.cells.append_row.Given as goal

abbrev pub invariant-loop-k : goal.invariant-loop-k
invariant-loop-k l = l.keys.items ≡ l.initial.keys.items ++ map (λ k. key_of l.x l.y (l.cells.z + k)) (range_with_len 0 l.k)
