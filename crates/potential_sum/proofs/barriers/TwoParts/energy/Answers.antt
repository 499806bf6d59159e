use Rattle.std.proofs.Common.{◌∙◌, ap}
use Rattle.std.specs.Int.{w128}
use Rattle.std.proofs.lemmas.Int.{to_z-of_z}
use Rattle.barrier_term.specs.Barrier.{barrier_energy}
use Rattle.potential_sum.specs.Contributions.{Contribution}
use Rattle.potential_sum.proofs.HeldParts.{kept_dhat, kept_stiffness}
use Rattle.potential_sum.proofs.barriers.TwoParts.energy.Goals as goal

pub returns : goal.returns
returns c =
    to_z-of_z w128 c.barrier_energy.result (record { sfits = c.barrier_energy.type_inv }) ∙ c.barrier_energy.ensures.value
    ∙ (λ i. barrier_energy (kept_stiffness c.args.numbers.now c.requires.numbers i) (kept_dhat c.args.numbers.now c.requires.numbers i) c.nearest-found.result.near)
    ∙ ap (λ (part : Contribution). part.energy) (c.nearest-found.ensures.barrier c.args.numbers.now)
