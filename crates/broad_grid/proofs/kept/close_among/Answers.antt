use Rattle.std.proofs.Common.{◌∙◌}
use Rattle.std.proofs.lemmas.Result.{IfOk-weaker}
use Rattle.broad_grid.proofs.CloseBoxes.{close_by_boxes_are_close, have_both}
use Rattle.broad_grid.proofs.kept.close_among.Goals as goal

pub close_by_boxes-requires : goal.close_by_boxes-requires
close_by_boxes-requires c =
    let x = c.args.x.now in
    have_both c.args.surface.now x x c.in_ok-boxes.boxes c.args.pairs.now c.in_ok-boxes.ensures c.requires.pairs

pub returns : goal.returns
returns c =
    IfOk-weaker c.close_by_boxes.result _ _
    (λ close found. found ∙ close_by_boxes_are_close c.args.reach c.args.surface.now c.args.x.now c.in_ok-boxes.boxes c.args.pairs.now c.in_ok-boxes.ensures)
    c.close_by_boxes.ensures
