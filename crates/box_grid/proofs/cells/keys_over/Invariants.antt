use Rattle.std.proofs.Common.{◌≡◌, ◌+◌}
use Rattle.std.specs.List.{flat_map, range_with_len}
use Rattle.box_grid.specs.Calls.Cells.{slab_keys}
use Rattle.box_grid.proofs.cells.keys_over.Given as goal

abbrev pub invariant-loop-k : goal.invariant-loop-k
invariant-loop-k l = l.keys.items ≡ flat_map (λ k. slab_keys l.cells (l.cells.x + k)) (range_with_len 0 l.k)
