use Rattle.std.proofs.Common.{◌∙◌}
use Rattle.std.specs.Int.{w128}
use Rattle.std.proofs.lemmas.Int.{to_z-of_z}
use Rattle.friction_lag.specs.Friction.{friction_energy}
use Rattle.friction_lag.specs.Lagged.{lagged_in}
use Rattle.potential_sum.proofs.HeldParts.{kept_friction, kept_slip}
use Rattle.potential_sum.proofs.friction.energy_of.Goals as goal

pub returns : goal.returns
returns c =
    let numbers = c.args.numbers.now in
    to_z-of_z w128 c.friction_energy.result (record { sfits = c.friction_energy.type_inv }) ∙ c.friction_energy.ensures.value
    ∙ (λ i. friction_energy (lagged_in c.args.contact.now) (kept_friction numbers c.requires.numbers i) (kept_slip numbers c.requires.numbers i) (c.corners_at-corners.ensures.value i))
