use Rattle.std.proofs.Common.{◌∙◌, Bool, List, ap, sym}
use Rattle.std.proofs.lemmas.Result.{IfOk-weaker}
use Rattle.broad_grid.specs.Calls.LooseBox.{loose_box}
use Rattle.broad_grid.proofs.MovingPairs.{enough_are_wanted, wanted_are_pairs}
use Rattle.broad_grid.proofs.moving.moving_pairs.Goals as goal

pub loose_among-requires : goal.loose_among-requires
loose_among-requires c = wanted_are_pairs c.loose_box-around.result c.args.surface.now c.args.x0.now c.args.x1.now c.items.result.now (c.items.ensures ∙ c.in_ok-near.ensures.pairs)

pub returns : goal.returns
returns c =
    IfOk-weaker c.loose_among.result _ _
    (λ pairs found. found ∙ enough_are_wanted c.args.surface.now c.args.x0.now c.args.x1.now c.as_slice-2.result.now c.loose_box-around.result c.items.result.now
    (c.as_slice-2.ensures.value ∙ c.in_ok-still.ensures)
    (c.loose_box-around.ensures.value ∙ ap (λ (still : List Bool). loose_box c.args.surface.now c.args.x0.now c.args.x1.now still) (c.as_slice.ensures.value ∙ sym c.as_slice-2.ensures.value))
    (c.items.ensures ∙ c.in_ok-near.ensures.pairs))
    c.loose_among.ensures
