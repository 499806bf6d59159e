use Rattle.std.proofs.Common.{◌∙◌, ◌++◌, sym, subst}
use Rattle.std.specs.Prelude.{All}
use Rattle.std.proofs.lemmas.List.Elements.{All-append}
use Rattle.list_laws.proofs.Pushes.{flat_map_counted_more}
use Rattle.space3.specs.Box.{IsInTheBox}
use Rattle.work_gen.specs.Stack.{block_places}
use Rattle.work_gen.proofs.blocks.places.Goals as goal

pub loop-block-preserved : goal.loop-block-preserved
loop-block-preserved c = (
  c.in_ok-extend_from_slice.ensures.items ∙ (λ i. c.loop-block.invariant.0 i ++ c.block_places.ensures.places i) ∙ sym (flat_map_counted_more block_places c.loop-block.block),
  subst (All IsInTheBox) (sym c.in_ok-extend_from_slice.ensures.items) (All-append IsInTheBox c.loop-block.made.items c.block_places.result c.loop-block.invariant.1 c.block_places.ensures.in_box),
)
