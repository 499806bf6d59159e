use Rattle.std.proofs.Common.{◌∙◌, ◌++◌, ◌∷◌, [], sym, arith, ◌+◌}
use Rattle.list_laws.proofs.Pushes.{range_more}
use Rattle.work_gen.proofs.blocks.node_numbers.Goals as goal

pub loop-node-preserved : goal.loop-node-preserved
loop-node-preserved c = c.in_ok-push.ensures.items ∙ (λ i. c.loop-node.invariant i ++ (c.loop-node.node + 1) ∷ []) ∙ sym (range_more 1 c.loop-node.node (c.loop-node.node + 1) (omega arith))
