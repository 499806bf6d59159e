use Rattle.std.proofs.Common.{◌≡◌, ◌∙◌, ◌^◌, List, [], ◌++◌, length, map, take, drop, get_or, replicate, ap, sym, subst, arith, rules}
use Rattle.std.specs.List.{range_with_len}
use Rattle.std.proofs.lemmas.List.{length-map}
use Rattle.std.proofs.lemmas.List.Elements.{All-map}
use Rattle.std.proofs.lemmas.List.FromFn.{length-map-range_with_len}
use Rattle.space3.specs.declared.vectors.W3.{W3}
use Rattle.potential_sum.specs.declared.bodies.Body.{Body}
use Rattle.potential_sum.specs.Calls.Inertia.{part_at}
use Rattle.potential_sum.specs.Calls.Kept.{elastic_in}
use Rattle.potential_sum.specs.Calls.Sums.{AreLight, node_sums, nothing, with_parts}
use Rattle.potential_sum.specs.Contributions.{Contribution, elastic_contribution}
use Rattle.potential_sum.proofs.Lightness.{IsSmall, parts_light, start_light}
use Rattle.potential_sum.proofs.Parts.{elastic-part-inside, elastic-part-small, inertia-parts-inside, inertia-parts-small}
use Rattle.potential_sum.proofs.PullSums.{IsInside, node_sums-none, with_parts-sums, written_back}
use Rattle.potential_sum.proofs.terms.body_sums.Goals as goal

pub add_elastic_pulls-requires-clause-small : goal.add_elastic_pulls-requires-clause-small
add_elastic_pulls-requires-clause-small c =
    let n = length c.args.x.now in
    let f = part_at c.args.masses.now c.args.targets.now c.args.x.now in
    let made : c.in_ok-sums.sums.items ≡ replicate c.len.result nothing = search rules in
    let whole : length c.add_inertia_pulls.new.sums ≡ c.in_ok-sums.sums.len = search rules in
    start_light n c.deref_mut-2.result.now (map f (range_with_len 0 n)) (omega (arith, length-map-range_with_len f 0 n, c.requires.few_nodes)) (inertia-parts-small c.args.masses.now c.args.targets.now c.args.x.now n)
    (c.deref_mut-2.ensures.value ∙ written_back c.add_inertia_pulls.new.sums c.in_ok-sums.sums.items c.in_ok-sums.sums.len whole ∙ c.add_inertia_pulls.ensures
    ∙ ap (λ (sums : List W3). with_parts sums (map f (range_with_len 0 n))) (c.deref_mut.ensures.value ∙ made ∙ ap (λ k. replicate k nothing) c.len.ensures))

pub returns-clause-sums : goal.returns-clause-sums
returns-clause-sums c =
    let n = length c.args.x.now in
    let inertia : List Contribution = map (part_at c.args.masses.now c.args.targets.now c.args.x.now) (range_with_len 0 n) in
    let elasticity : Body → Contribution = λ body. elastic_contribution c.args.x.now (elastic_in body) in
    let made : c.in_ok-sums.sums.items ≡ replicate c.len.result nothing = search rules in
    let whole : length c.add_inertia_pulls.new.sums ≡ c.in_ok-sums.sums.len = search rules in
    let whole_after : length c.add_elastic_pulls.new.sums ≡ c.in_ok-sums.sums.len = search rules in
    let first : c.add_inertia_pulls.new.sums ≡ node_sums n inertia =
    c.add_inertia_pulls.ensures ∙ ap (λ (sums : List W3). with_parts sums inertia) (c.deref_mut.ensures.value ∙ made ∙ ap (λ k. replicate k nothing) c.len.ensures ∙ node_sums-none n)
    ∙ with_parts-sums n [] inertia (inertia-parts-inside c.args.masses.now c.args.targets.now c.args.x.now n) in
    written_back c.add_elastic_pulls.new.sums (take c.in_ok-sums.sums.len (c.add_inertia_pulls.new.sums ++ drop (length c.add_inertia_pulls.new.sums) c.in_ok-sums.sums.items)) c.in_ok-sums.sums.len whole_after
    ∙ c.add_elastic_pulls.ensures
    ∙ ap (λ (sums : List W3). with_parts sums (map elasticity c.args.bodies.now)) (c.deref_mut-2.ensures.value ∙ written_back c.add_inertia_pulls.new.sums c.in_ok-sums.sums.items c.in_ok-sums.sums.len whole ∙ first)
    ∙ with_parts-sums n inertia (map elasticity c.args.bodies.now) (All-map (IsInside n) elasticity c.args.bodies.now (λ k d l. elastic-part-inside c.args.x.now (elastic_in (get_or c.args.bodies.now k d)) (c.requires.stand k d l)))

pub returns-clause-small : goal.returns-clause-small
returns-clause-small c =
    let n = length c.args.x.now in
    let f = part_at c.args.masses.now c.args.targets.now c.args.x.now in
    let elasticity : Body → Contribution = λ body. elastic_contribution c.args.x.now (elastic_in body) in
    let made : c.in_ok-sums.sums.items ≡ replicate c.len.result nothing = search rules in
    let whole : length c.add_inertia_pulls.new.sums ≡ c.in_ok-sums.sums.len = search rules in
    let whole_after : length c.add_elastic_pulls.new.sums ≡ c.in_ok-sums.sums.len = search rules in
    let start : AreLight (2 ^ 118) c.deref_mut-2.result.now =
    start_light n c.deref_mut-2.result.now (map f (range_with_len 0 n)) (omega (arith, length-map-range_with_len f 0 n, c.requires.few_nodes)) (inertia-parts-small c.args.masses.now c.args.targets.now c.args.x.now n)
    (c.deref_mut-2.ensures.value ∙ written_back c.add_inertia_pulls.new.sums c.in_ok-sums.sums.items c.in_ok-sums.sums.len whole ∙ c.add_inertia_pulls.ensures
    ∙ ap (λ (sums : List W3). with_parts sums (map f (range_with_len 0 n))) (c.deref_mut.ensures.value ∙ made ∙ ap (λ k. replicate k nothing) c.len.ensures)) in
    subst (AreLight (2 ^ 120)) (sym (written_back c.add_elastic_pulls.new.sums (take c.in_ok-sums.sums.len (c.add_inertia_pulls.new.sums ++ drop (length c.add_inertia_pulls.new.sums) c.in_ok-sums.sums.items)) c.in_ok-sums.sums.len whole_after))
    (parts_light (2 ^ 118) (2 ^ 120) c.deref_mut-2.result.now c.add_elastic_pulls.new.sums (map elasticity c.args.bodies.now) (omega (arith, length-map c.args.bodies.now elasticity, c.requires.few_bodies))
    (All-map IsSmall elasticity c.args.bodies.now (λ k d l. elastic-part-small c.args.x.now (elastic_in (get_or c.args.bodies.now k d)))) start c.add_elastic_pulls.ensures)
