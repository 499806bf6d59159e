use Rattle.std.proofs.Common.{◌∙◌, [], ◌∷◌, ◌++◌, ap, sym}
use Rattle.std.specs.Prelude.{if◌then◌else◌}
use Rattle.std.proofs.lemmas.List.{take_all}
use Rattle.safe_motion.specs.Safety.{PartPair}
use Rattle.potential_sum.specs.Contacts.{contact_at, is_active}
use Rattle.potential_sum.proofs.CloseParts.{found_are_close}
use Rattle.potential_sum.proofs.FrameContacts.{contacts_of_pairs, one_pair_more}
use Rattle.potential_sum.proofs.HeldParts.{held_pair}
use Rattle.potential_sum.proofs.contacts.contacts_at.Goals as goal

pub parts_of-parts-requires-clause-pair : goal.parts_of-parts-requires-clause-pair
parts_of-parts-requires-clause-pair c =
    (found_are_close c.args.setup.now c.args.now.now c.args.pairs.now c.requires.built c.requires.pose c.requires.close c.loop-pair.pair-index _ c.loop-pair-test.true).there

pub parts_of-parts-requires-clause-four : goal.parts_of-parts-requires-clause-four
parts_of-parts-requires-clause-four c =
    (found_are_close c.args.setup.now c.args.now.now c.args.pairs.now c.requires.built c.requires.pose c.requires.close c.loop-pair.pair-index _ c.loop-pair-test.true).close.four

pub push_if_active-requires-clause-close : goal.push_if_active-requires-clause-close
push_if_active-requires-clause-close c =
    held_pair c.args.setup.now c.args.now.now c.args.pairs.now c.parts_of-parts.result c.loop-pair.pair-index _
    (found_are_close c.args.setup.now c.args.now.now c.args.pairs.now c.requires.built c.requires.pose c.requires.close) c.loop-pair-test.true c.parts_of-parts.ensures

pub loop-pair-preserved : goal.loop-pair-preserved
loop-pair-preserved c =
    let numbers = c.args.setup.now.numbers in
    let x = c.args.now.now in
    c.in_ok-push_if_active.ensures
    ∙ (λ i. c.loop-pair.invariant i ++ (ap (λ (parts : PartPair). if is_active numbers x parts then contact_at numbers x parts ∷ [] else []) c.parts_of-parts.ensures) i)
    ∙ sym (one_pair_more c.args.setup.now x c.args.pairs.now c.loop-pair.pair-index _ c.loop-pair-test.true)

pub returns : goal.returns
returns c =
    c.loop-pair.invariant
    ∙ ap (contacts_of_pairs c.args.setup.now c.args.now.now) (take_all c.loop-pair.pair-index c.args.pairs.now c.loop-pair-test.false ∙ c.requires.close)
