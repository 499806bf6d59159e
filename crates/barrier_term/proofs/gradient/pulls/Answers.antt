use Rattle.std.proofs.Common.{sym, ◌∙◌, ap, pos, map, arith}
use Rattle.list_laws.proofs.Fours.{four, map-four}
use Rattle.vec_q.specs.Raws.{raws}
use Rattle.vec_q.specs.Rows.{components}
use Rattle.barrier_term.specs.Gradients.{pull_at}
use Rattle.barrier_term.proofs.Pulls.{pulls_cancel}
use Rattle.barrier_term.proofs.gradient.pulls.Goals as goal

pub returns-clause-value : goal.returns-clause-value
returns-clause-value c =
    four c.pull_at.ensures c.pull_at-2.ensures c.pull_at-3.ensures c.pull_at-4.ensures
    ∙ sym (ap (map components) (map-four (pull_at c.args.slope.raw (raws c.args.way)) c.args.signed.now (pos 0) (omega arith)))

pub returns-clause-cancelling : goal.returns-clause-cancelling
returns-clause-cancelling c =
    let way = c.args.way in
    pulls_cancel c.args.slope.raw (raws way) c.args.signed.now c.args.slope.in_range (record { x = way.x.in_range; y = way.y.in_range; z = way.z.in_range }) (omega arith) c.requires.balanced
