use Rattle.std.proofs.Common.{◌∙◌, ◌++◌, sym, false}
use Rattle.std.specs.Prelude.{slice_index_or}
use Rattle.list_laws.proofs.Pushes.{flat_map_counted_more}
use Rattle.potential_sum.specs.Calls.Sums.{nothing, numbers_of}
use Rattle.potential_sum.proofs.pulls.node_numbers.Goals as goal

pub loop-node-preserved : goal.loop-node-preserved
loop-node-preserved c =
    c.in_ok-extend_from_slice.ensures.items ∙ (λ i. c.loop-node.invariant i ++ c.numbers_of.ensures i)
    ∙ sym (flat_map_counted_more (λ node. numbers_of (slice_index_or c.args.fixed.now node false) (slice_index_or c.args.sums.now node nothing)) c.loop-node.node)
