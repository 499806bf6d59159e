use Rattle.std.proofs.Common.{◌≡◌, false}
use Rattle.std.specs.Prelude.{slice_index_or}
use Rattle.std.specs.List.{flat_map, range_with_len}
use Rattle.potential_sum.specs.Calls.Sums.{nothing, numbers_of}
use Rattle.potential_sum.proofs.pulls.node_numbers.Given as goal

abbrev pub invariant-loop-node : goal.invariant-loop-node
invariant-loop-node l = l.made.items ≡ flat_map (λ node. numbers_of (slice_index_or l.fixed node false) (slice_index_or l.sums node nothing)) (range_with_len 0 l.node)
