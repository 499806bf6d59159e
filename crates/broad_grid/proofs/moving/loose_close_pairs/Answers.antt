use Rattle.std.proofs.Common.{◌∙◌}
use Rattle.std.proofs.lemmas.Result.{IfOk-weaker}
use Rattle.broad_grid.proofs.MovingPairs.{close_wanted_are_pairs, enough_are_close}
use Rattle.broad_grid.proofs.moving.loose_close_pairs.Goals as goal

pub loose_among-requires : goal.loose_among-requires
loose_among-requires c = close_wanted_are_pairs c.loose_box-around.result c.args.reach c.args.surface.now c.args.x.now c.items.result.now (c.items.ensures ∙ c.in_ok-near.ensures.pairs)

pub returns : goal.returns
returns c =
    IfOk-weaker c.loose_among.result _ _
    (λ pairs found. found ∙ enough_are_close c.args.surface.now c.args.x.now c.args.fixed.now c.args.reach c.loose_box-around.result c.items.result.now c.loose_box-around.ensures.value (c.items.ensures ∙ c.in_ok-near.ensures.pairs))
    c.loose_among.ensures
