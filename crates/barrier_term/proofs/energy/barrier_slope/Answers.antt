use Rattle.std.proofs.Common.{◌∙◌}
use Rattle.barrier_term.specs.Barrier.{slope_at}
use Rattle.barrier_term.proofs.Activity.{back_zero, far_away, passed_on}
use Rattle.barrier_term.proofs.energy.barrier_slope.Goals as goal

pub returns-clause-far : goal.returns-clause-far
returns-clause-far c =
    λ far. back_zero c.raw.result
    (c.raw.ensures ∙ c.slope_number.ensures.value ∙ passed_on slope_at c.args.kappa c.args.dhat c.args.near.now c.ranges.kappa c.ranges.dhat ∙ far_away c.args.dhat c.args.near.now (slope_at c.args.kappa) far)
