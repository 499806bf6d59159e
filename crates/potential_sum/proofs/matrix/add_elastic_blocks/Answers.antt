use Rattle.std.proofs.Common.{refl, ap}
use Rattle.potential_sum.specs.declared.bodies.Body.{Body}
use Rattle.potential_sum.specs.Calls.Kept.{elastic_in}
use Rattle.potential_sum.specs.Calls.Stiffness.{stiffness_of_one}
use Rattle.potential_sum.specs.Contributions.{Contribution, elastic_contribution}
use Rattle.potential_sum.proofs.Stiffness.{all_parts, more_as, nothing_more, part_more}
use Rattle.potential_sum.proofs.matrix.add_elastic_blocks.Goals as goal

pub loop-body-init : goal.loop-body-init
loop-body-init c = nothing_more c.args.sums.now

pub loop-body-preserved : goal.loop-body-preserved
loop-body-preserved c =
    let f : Body → Contribution = λ body. elastic_contribution c.args.x.now (elastic_in body) in
    let body = c.body-item.result in
    part_more f c.args.bodies.now c.loop-body.body-index body c.args.sums.now c.loop-body.sums c.add_body_blocks.new.sums c.loop-body-test.true c.loop-body.invariant
    (more_as c.loop-body.sums c.add_body_blocks.new.sums (stiffness_of_one (f body)) _ 16 16 c.in_ok-add_body_blocks.ensures (ap (λ b. stiffness_of_one (f b)) c.body-item.is) refl)

pub returns : goal.returns
returns c = all_parts (λ (body : Body). elastic_contribution c.args.x.now (elastic_in body)) c.args.bodies.now c.loop-body.body-index c.args.sums.now c.loop-body.sums c.loop-body.auto.body-index-end c.loop-body-test.false c.loop-body.invariant
