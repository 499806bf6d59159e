use Rattle.std.proofs.Common.{◌∙◌, map, subst}
use Rattle.nearest.specs.Cancelling.{AlmostCancel}
use Rattle.barrier_term.specs.Barrier.{slope_at}
use Rattle.barrier_term.specs.Gradients.{pull_at}
use Rattle.barrier_term.proofs.Activity.{passed_on}
use Rattle.barrier_term.proofs.gradient.barrier_gradient.Goals as goal

pub returns-clause-cancelling : goal.returns-clause-cancelling
returns-clause-cancelling c =
    let slope = c.slope_number-slope.ensures.value ∙ passed_on slope_at c.args.kappa c.args.dhat c.args.near.now c.ranges.kappa c.ranges.dhat in
    subst AlmostCancel (λ i. map (pull_at (slope i) (c.way-way.ensures i)) (c.signed_weights.ensures.value i)) c.pulls.ensures.cancelling
