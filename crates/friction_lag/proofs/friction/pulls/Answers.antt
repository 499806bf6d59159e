use Rattle.std.proofs.Common.{sym, ◌∙◌, ap, pos, map, arith}
use Rattle.list_laws.proofs.Fours.{four, map-four}
use Rattle.vec_q.specs.Raws.{raws}
use Rattle.vec_q.specs.Rows.{components}
use Rattle.friction_lag.specs.Friction.{pull_at}
use Rattle.friction_lag.proofs.Pulls.{pulls_cancel}
use Rattle.friction_lag.proofs.friction.pulls.Goals as goal

pub returns-clause-value : goal.returns-clause-value
returns-clause-value c =
    four c.pull_at.ensures c.pull_at-2.ensures c.pull_at-3.ensures c.pull_at-4.ensures
    ∙ sym (ap (map components) (map-four (pull_at c.args.drag.raw (raws c.args.slide)) c.args.signed.now (pos 0) (omega arith)))

pub returns-clause-cancelling : goal.returns-clause-cancelling
returns-clause-cancelling c =
    let slide = c.args.slide in
    pulls_cancel c.args.drag.raw (raws slide) c.args.signed.now c.args.drag.in_range (record { x = slide.x.in_range; y = slide.y.in_range; z = slide.z.in_range }) (omega arith) c.requires.balanced
