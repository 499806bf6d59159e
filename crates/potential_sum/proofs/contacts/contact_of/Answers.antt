use Rattle.std.proofs.Common.{◌≡◌, ◌∙◌, to_z, of_z}
use Rattle.std.specs.Int.{w128}
use Rattle.std.proofs.lemmas.Int.{to_z-of_z}
use Rattle.barrier_term.specs.Barrier.{barrier_slope}
use Rattle.friction_lag.specs.Contacts.{contact_of}
use Rattle.potential_sum.proofs.HeldParts.{kept_dhat, kept_stiffness}
use Rattle.potential_sum.proofs.contacts.contact_of.Goals as goal

pub returns : goal.returns
returns c =
    let numbers = c.args.numbers.now in
    let near = c.args.found.now.near in
    let slope : to_z w128 (of_z w128 c.barrier_slope-slope.result) ≡ barrier_slope numbers.kappa numbers.dhat near =
    to_z-of_z w128 c.barrier_slope-slope.result (record { sfits = c.barrier_slope-slope.type_inv }) ∙ c.barrier_slope-slope.ensures.value
    ∙ (λ i. barrier_slope (kept_stiffness numbers c.requires.numbers i) (kept_dhat numbers c.requires.numbers i) near) in
    c.contact.ensures ∙ (λ i. contact_of near (slope i) c.args.parts.split c.args.parts.nodes c.args.found.now.points)
