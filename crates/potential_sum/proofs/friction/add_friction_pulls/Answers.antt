use Rattle.std.proofs.Common.{◌≡◌, ◌∙◌, ℕ, ◌<◌, ◌-◌, ◌^◌, length, map, take, get_or, ap, subst, sym, arith}
use Rattle.std.specs.Prelude.{All, zip}
use Rattle.std.proofs.lemmas.List.{length-map, length-take, map_more}
use Rattle.std.proofs.lemmas.List.Elements.{All-map, All-take}
use Rattle.space3.specs.declared.vectors.V3.{V3}
use Rattle.friction_lag.specs.declared.contacts.Contact.{Contact}
use Rattle.friction_lag.specs.Lagged.{lagged_in}
use Rattle.potential_sum.specs.declared.pulls.Pull.{Pull}
use Rattle.potential_sum.specs.Calls.Friction.{MaySlide, friction_at}
use Rattle.potential_sum.specs.Calls.Sums.{as_pull, pulls_of, with_parts, with_pulls}
use Rattle.potential_sum.specs.Contributions.{Contribution, friction_contribution}
use Rattle.potential_sum.proofs.Lightness.{IsSmall, IsWeak, parts_light}
use Rattle.potential_sum.proofs.Parts.{friction-part-inside, friction-part-small}
use Rattle.potential_sum.proofs.PullSums.{with_parts-push}
use Rattle.potential_sum.proofs.friction.add_friction_pulls.Goals as goal

pub add_pulls-requires-clause-there : goal.add_pulls-requires-clause-there
add_pulls-requires-clause-there c =
    let contact = lagged_in c.contact-item.result in
    let part = friction_contribution c.args.numbers.now c.args.x.now contact in
    let long : length c.loop-contact.sums ≡ length c.args.x.now = c.loop-contact.auto.sums ∙ c.requires.nodes in
    subst (All (λ (pull : Pull). pull.node < length c.loop-contact.sums)) (sym c.pulls_of.ensures)
    (All-map (λ (pull : Pull). pull.node < length c.loop-contact.sums) as_pull (zip part.nodes part.pulls)
    (subst (λ n. All (λ (pull : ℕ × V3). pull.0 < n) (zip part.nodes part.pulls)) (sym long)
    (friction-part-inside c.args.numbers.now c.args.x.now contact
    (subst (λ (contact : Contact). MaySlide c.args.x.now (lagged_in contact)) (sym c.contact-item.is) (c.requires.slide c.loop-contact.contact-index c.contact-item.result c.loop-contact-test.true)))))

pub add_pulls-requires-clause-small : goal.add_pulls-requires-clause-small
add_pulls-requires-clause-small c =
    let f = friction_at c.args.numbers.now c.args.x.now in
    let done = take c.loop-contact.contact-index c.args.contacts.now in
    parts_light (2 ^ 125) (2 ^ 126 - 2 ^ 92) c.args.sums.now c.loop-contact.sums (map f done) (omega (arith, length-map done f, length-take c.loop-contact.contact-index c.args.contacts.now, c.requires.few))
    (All-map IsSmall f done (λ k d l.
    friction-part-small c.args.numbers.now c.args.x.now (lagged_in (get_or done k d)) (All-take (λ contact. MaySlide c.args.x.now (lagged_in contact)) c.loop-contact.contact-index c.args.contacts.now c.requires.slide k d l)))
    c.requires.light c.loop-contact.invariant

pub add_pulls-requires-clause-pulls : goal.add_pulls-requires-clause-pulls
add_pulls-requires-clause-pulls c =
    subst (All IsWeak) (sym c.pulls_of.ensures) (friction-part-small c.args.numbers.now c.args.x.now (lagged_in c.contact-item.result) (subst (λ (contact : Contact). MaySlide c.args.x.now (lagged_in contact)) (sym c.contact-item.is) (c.requires.slide c.loop-contact.contact-index c.contact-item.result c.loop-contact-test.true))).weak

pub loop-contact-preserved : goal.loop-contact-preserved
loop-contact-preserved c =
    let f : Contact → Contribution = friction_at c.args.numbers.now c.args.x.now in
    let i = c.loop-contact.contact-index in
    c.add_pulls.ensures ∙ (λ t. with_pulls (c.loop-contact.invariant t) ((c.pulls_of.ensures ∙ ap (λ (contact : Contact). pulls_of (f contact)) c.contact-item.is) t))
    ∙ sym (with_parts-push c.args.sums.now (map f (take i c.args.contacts.now)) (f (get_or c.args.contacts.now i c.contact-item.result)))
    ∙ ap (with_parts c.args.sums.now) (sym (map_more f c.args.contacts.now i c.contact-item.result c.loop-contact-test.true))
