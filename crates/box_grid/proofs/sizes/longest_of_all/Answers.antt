use Rattle.std.proofs.Common.{ap, max, ◌∙◌}
use Rattle.box_grid.proofs.Sides.{sides_more}
use Rattle.box_grid.proofs.sizes.longest_of_all.Goals as goal

pub loop-around-preserved : goal.loop-around-preserved
loop-around-preserved c =
    sides_more c.args.boxes.now c.loop-around.around-index _ c.loop-around.longest c.max-longest.result c.loop-around-test.true c.loop-around.invariant
    (c.max-longest.ensures ∙ ap (max c.loop-around.longest) c.longest_side.ensures)
