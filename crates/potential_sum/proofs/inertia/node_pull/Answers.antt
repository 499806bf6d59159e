use Rattle.std.proofs.Common.{◌∙◌, ℤ, List, ap, sym}
use Rattle.std.specs.Int.{w128}
use Rattle.std.proofs.lemmas.Int.{to_z-of_z}
use Rattle.std.proofs.lemmas.Option.{get_or_from_slice_get}
use Rattle.space3.specs.Vectors.{origin}
use Rattle.vec_q.specs.Rows.{vector_of}
use Rattle.inertia_term.specs.Inertia.{inertia_gradient}
use Rattle.potential_sum.specs.Calls.Sums.{as_pull}
use Rattle.potential_sum.proofs.inertia.node_pull.Goals as goal

pub returns : goal.returns
returns c =
    let mass = to_z-of_z w128 c.mass_of-mass.result (record { sfits = c.mass_of-mass.type_inv }) ∙ c.mass_of-mass.ensures.value in
    let place = sym (get_or_from_slice_get c.args.x.now c.args.node c.get.result origin c.get.ensures.place) in
    c.pull_at.ensures ∙ ap (λ (force : List ℤ). as_pull (c.args.node, vector_of force)) c.inertia_gradient.ensures ∙ (λ i. as_pull (c.args.node, inertia_gradient (mass i) (place i) (c.target_at.ensures.value i)))
