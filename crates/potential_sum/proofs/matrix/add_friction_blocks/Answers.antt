use Rattle.std.proofs.Common.{refl, ap}
use Rattle.friction_lag.specs.declared.contacts.Contact.{Contact}
use Rattle.potential_sum.specs.Calls.Friction.{friction_at}
use Rattle.potential_sum.specs.Calls.Stiffness.{stiffness_of_one}
use Rattle.potential_sum.specs.Contributions.{Contribution}
use Rattle.potential_sum.proofs.Stiffness.{all_parts, more_as, nothing_more, part_more}
use Rattle.potential_sum.proofs.matrix.add_friction_blocks.Goals as goal

pub loop-contact-init : goal.loop-contact-init
loop-contact-init c = nothing_more c.args.sums.now

pub loop-contact-preserved : goal.loop-contact-preserved
loop-contact-preserved c =
    let f : Contact → Contribution = friction_at c.args.numbers.now c.args.x.now in
    let contact = c.contact-item.result in
    part_more f c.args.contacts.now c.loop-contact.contact-index contact c.args.sums.now c.loop-contact.sums c.add_contact_blocks.new.sums c.loop-contact-test.true c.loop-contact.invariant
    (more_as c.loop-contact.sums c.add_contact_blocks.new.sums (stiffness_of_one (f contact)) _ 16 16 c.in_ok-add_contact_blocks.ensures (ap (λ one. stiffness_of_one (f one)) c.contact-item.is) refl)

pub returns : goal.returns
returns c = all_parts (friction_at c.args.numbers.now c.args.x.now) c.args.contacts.now c.loop-contact.contact-index c.args.sums.now c.loop-contact.sums c.loop-contact.auto.contact-index-end c.loop-contact-test.false c.loop-contact.invariant
