use Rattle.std.proofs.Common.{◌∙◌, sym}
use Rattle.std.specs.Int.{w128}
use Rattle.std.proofs.lemmas.Int.{to_z-of_z}
use Rattle.std.proofs.lemmas.Option.{get_or_from_slice_get}
use Rattle.space3.specs.Vectors.{origin}
use Rattle.inertia_term.specs.Inertia.{inertia_energy}
use Rattle.potential_sum.proofs.inertia.node_energy.Goals as goal

pub returns : goal.returns
returns c =
    let mass = to_z-of_z w128 c.mass_of.result (record { sfits = c.mass_of.type_inv }) ∙ c.mass_of.ensures.value in
    let place = sym (get_or_from_slice_get c.args.x.now c.args.node c.get.result origin c.get.ensures.place) in
    to_z-of_z w128 c.inertia_energy.result (record { sfits = c.inertia_energy.type_inv }) ∙ c.inertia_energy.ensures ∙ (λ i. inertia_energy (mass i) (place i) (c.target_at.ensures.value i))
