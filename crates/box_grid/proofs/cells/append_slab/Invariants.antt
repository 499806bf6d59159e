use Rattle.std.proofs.Common.{◌≡◌, ◌++◌, ◌+◌}
use Rattle.std.specs.List.{flat_map, range_with_len}
use Rattle.box_grid.specs.Calls.Cells.{row_keys}
use Rattle.box_grid.proofs.cells.append_slab.Given as goal

abbrev pub invariant-loop-k : goal.invariant-loop-k
invariant-loop-k l = l.keys.items ≡ l.initial.keys.items ++ flat_map (λ k. row_keys l.cells l.x (l.cells.y + k)) (range_with_len 0 l.k)
