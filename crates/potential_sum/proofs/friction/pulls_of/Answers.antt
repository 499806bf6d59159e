use Rattle.std.proofs.Common.{◌≡◌, ◌∙◌, map, arith}
use Rattle.list_laws.proofs.Fours.{four}
use Rattle.vec_q.specs.Rows.{components}
use Rattle.friction_lag.specs.Friction.{friction_gradient}
use Rattle.friction_lag.specs.Lagged.{lagged_in}
use Rattle.potential_sum.specs.Bodies.{corners_at}
use Rattle.potential_sum.proofs.HeldParts.{four_pulls, kept_friction, kept_slip}
use Rattle.potential_sum.proofs.friction.pulls_of.Goals as goal

pub returns : goal.returns
returns c =
    let numbers = c.args.numbers.now in
    let contact = lagged_in c.args.contact.now in
    let pulls : c.friction_gradient-pulls.result ≡ map components (friction_gradient contact numbers.friction numbers.slip (corners_at c.args.x.now c.args.contact.now.nodes)) =
    c.friction_gradient-pulls.ensures.value
    ∙ (λ i. map components (friction_gradient contact (kept_friction numbers c.requires.numbers i) (kept_slip numbers c.requires.numbers i) (c.corners_at-corners.ensures.value i))) in
    four c.pull_at.ensures c.pull_at-2.ensures c.pull_at-3.ensures c.pull_at-4.ensures
    ∙ four_pulls c.args.contact.now.nodes (friction_gradient contact numbers.friction numbers.slip (corners_at c.args.x.now c.args.contact.now.nodes)) c.friction_gradient-pulls.result c.requires.slide.four (omega arith) pulls
