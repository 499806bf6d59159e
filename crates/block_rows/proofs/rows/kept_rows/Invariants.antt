use Rattle.std.proofs.Common.{◌≡◌, [], map, slice_index_or}
use Rattle.std.specs.List.{range_with_len}
use Rattle.block_rows.specs.Calls.Matrices.{kept_row}
use Rattle.block_rows.proofs.rows.kept_rows.Given as goal

abbrev pub invariant-loop-node : goal.invariant-loop-node
invariant-loop-node l = l.made.items ≡ map (λ node. kept_row l.fixed node (slice_index_or l.sums node [])) (range_with_len 0 l.node)
