use Rattle.std.proofs.Common.{◌∙◌, ◌++◌, sym}
use Rattle.list_laws.proofs.Pushes.{flat_map_counted_more}
use Rattle.work_gen.specs.Stack.{block_tets}
use Rattle.work_gen.proofs.blocks.tets.Goals as goal

pub loop-block-preserved : goal.loop-block-preserved
loop-block-preserved c = c.in_ok-push_block.ensures ∙ (λ i. c.loop-block.invariant i ++ block_tets c.loop-block.block) ∙ sym (flat_map_counted_more block_tets c.loop-block.block)
