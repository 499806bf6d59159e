use Rattle.std.proofs.Common.{◌∙◌}
use Rattle.barrier_term.specs.Barrier.{energy_at}
use Rattle.barrier_term.proofs.Activity.{back_zero, far_away, passed_on}
use Rattle.barrier_term.proofs.energy.barrier_energy.Goals as goal

pub returns-clause-far : goal.returns-clause-far
returns-clause-far c =
    λ far. back_zero c.raw.result
    (c.raw.ensures ∙ c.energy_number.ensures.value ∙ passed_on energy_at c.args.kappa c.args.dhat c.args.near.now c.ranges.kappa c.ranges.dhat ∙ far_away c.args.dhat c.args.near.now (energy_at c.args.kappa) far)
