use Rattle.std.proofs.Common.{◌∙◌, length, ap, subst, sym}
use Rattle.std.specs.Prelude.{All}
use Rattle.potential_sum.specs.Contacts.{IsBetweenParts}
use Rattle.potential_sum.proofs.FrameContacts.{contacts_are_between, few_contacts}
use Rattle.potential_sum.proofs.Targets.{length-targets_of}
use Rattle.potential_sum.proofs.terms.Terms.open.Goals as goal

pub returns-clause-stand : goal.returns-clause-stand
returns-clause-stand c = record {
  each = ap length c.in_ok-targets.ensures.targets ∙ length-targets_of c.args.setup.now.numbers.gravity c.args.now.now c.args.before.now (c.requires.each_before ∙ sym c.requires.pose.each) ∙ c.requires.pose.each;
  near = c.in_ok-targets.ensures.near;
  contacts = subst (All (IsBetweenParts c.args.setup.now)) (sym c.in_ok-contacts.ensures) (contacts_are_between c.args.setup.now c.args.now.now c.requires.built c.requires.pose);
  few = rw c.in_ok-contacts.ensures (few_contacts c.args.setup.now c.args.now.now c.requires.built);
  elastic = c.in_ok-bodies.ensures;
  held = c.in_ok-held.ensures;
  pairs = c.in_ok-kept.ensures.near;
}
