use Rattle.std.proofs.Common.{◌∙◌, ◌-◌, ◌^◌, map, take, get_or, ap, subst, sym, arith}
use Rattle.std.specs.Prelude.{All}
use Rattle.std.proofs.lemmas.List.{length-map, length-take, map_more}
use Rattle.std.proofs.lemmas.List.Elements.{All-map}
use Rattle.potential_sum.specs.declared.bodies.Body.{Body}
use Rattle.potential_sum.specs.Calls.Kept.{elastic_in}
use Rattle.potential_sum.specs.Calls.Sums.{pulls_of, with_parts, with_pulls}
use Rattle.potential_sum.specs.Contributions.{Contribution, elastic_contribution}
use Rattle.potential_sum.proofs.Lightness.{IsSmall, IsWeak, parts_light}
use Rattle.potential_sum.proofs.Parts.{elastic-part-small}
use Rattle.potential_sum.proofs.PullSums.{with_parts-push}
use Rattle.potential_sum.proofs.bodies.add_elastic_pulls.Goals as goal

pub add_pulls-requires-clause-small : goal.add_pulls-requires-clause-small
add_pulls-requires-clause-small c =
    let f : Body → Contribution = λ body. elastic_contribution c.args.x.now (elastic_in body) in
    let done = take c.loop-body.body-index c.args.bodies.now in
    parts_light (2 ^ 118) (2 ^ 126 - 2 ^ 92) c.args.sums.now c.loop-body.sums (map f done) (omega (arith, length-map done f, length-take c.loop-body.body-index c.args.bodies.now, c.requires.few))
    (All-map IsSmall f done (λ k d l. elastic-part-small c.args.x.now (elastic_in (get_or done k d)))) c.requires.small c.loop-body.invariant

pub add_pulls-requires-clause-pulls : goal.add_pulls-requires-clause-pulls
add_pulls-requires-clause-pulls c = subst (All IsWeak) (sym c.pulls.ensures) (elastic-part-small c.args.x.now (elastic_in c.body-item.result)).weak

pub loop-body-preserved : goal.loop-body-preserved
loop-body-preserved c =
    let f : Body → Contribution = λ body. elastic_contribution c.args.x.now (elastic_in body) in
    let i = c.loop-body.body-index in
    c.add_pulls.ensures ∙ (λ t. with_pulls (c.loop-body.invariant t) ((c.pulls.ensures ∙ ap (λ (body : Body). pulls_of (f body)) c.body-item.is) t))
    ∙ sym (with_parts-push c.args.sums.now (map f (take i c.args.bodies.now)) (f (get_or c.args.bodies.now i c.body-item.result)))
    ∙ ap (with_parts c.args.sums.now) (sym (map_more f c.args.bodies.now i c.body-item.result c.loop-body-test.true))
