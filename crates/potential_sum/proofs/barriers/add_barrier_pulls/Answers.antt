use Rattle.std.proofs.Common.{◌≡◌, ◌∙◌, ℕ, ◌<◌, ◌≤◌, ◌-◌, ◌^◌, List, length, map, lit≤, take, get_or, ap, subst, sym, arith}
use Rattle.std.specs.Prelude.{All, zip}
use Rattle.std.proofs.lemmas.List.{length-map, length-take, map_more}
use Rattle.std.proofs.lemmas.List.Elements.{All-map, All-take}
use Rattle.space3.specs.declared.vectors.V3.{V3}
use Rattle.space3.specs.declared.vectors.W3.{W3}
use Rattle.boundary.specs.declared.pairs.Pair.{Pair}
use Rattle.boundary.specs.declared.pairs.PairKind.TheVariants as kinds
use Rattle.boundary.specs.Pairs.{part_pair}
use Rattle.surface_mesh.specs.declared.setup.Setup.{Setup}
use Rattle.potential_sum.specs.declared.contacts.TheConstants.{MOST_CLOSE}
use Rattle.potential_sum.specs.declared.pulls.Pull.{Pull}
use Rattle.potential_sum.specs.Calls.Barriers.{IsClosePair, barrier_at, parts_in}
use Rattle.potential_sum.specs.Calls.Sums.{AreLight, as_pull, pulls_of, with_parts, with_pulls}
use Rattle.potential_sum.specs.Contributions.{Contribution, barrier_contribution}
use Rattle.potential_sum.proofs.HeldParts.{held_pair}
use Rattle.potential_sum.proofs.Lightness.{IsSmall, IsWeak, lighter, parts_light}
use Rattle.potential_sum.proofs.Parts.{barrier-part-inside, barrier-part-small}
use Rattle.potential_sum.proofs.PullSums.{with_parts-push}
use Rattle.potential_sum.proofs.barriers.add_barrier_pulls.Goals as goal

pub pulls-requires-clause-close : goal.pulls-requires-clause-close
pulls-requires-clause-close c = held_pair c.args.setup.now c.args.x.now c.args.pairs.now c.parts_of-parts.result c.loop-pair.pair-index _ c.requires.close c.loop-pair-test.true c.parts_of-parts.ensures

pub add_pulls-requires-clause-there : goal.add_pulls-requires-clause-there
add_pulls-requires-clause-there c =
    let parts = parts_in c.parts_of-parts.result in
    let part = barrier_contribution c.args.setup.now.numbers c.args.x.now parts in
    let long : length c.loop-pair.sums ≡ length c.args.x.now = c.loop-pair.auto.sums ∙ c.requires.nodes in
    subst (All (λ (pull : Pull). pull.node < length c.loop-pair.sums)) (sym c.pulls.ensures)
    (All-map (λ (pull : Pull). pull.node < length c.loop-pair.sums) as_pull (zip part.nodes part.pulls)
    (subst (λ n. All (λ (pull : ℕ × V3). pull.0 < n) (zip part.nodes part.pulls)) (sym long)
    (barrier-part-inside c.args.setup.now.numbers c.args.x.now parts (held_pair c.args.setup.now c.args.x.now c.args.pairs.now c.parts_of-parts.result c.loop-pair.pair-index _ c.requires.close c.loop-pair-test.true c.parts_of-parts.ensures))))

-- the sums after the first i pairs
light : (s : Setup) (x : List V3) (pairs : List Pair) (i : ℕ) (sums now : List W3) → All (IsClosePair s x) pairs → length pairs ≤ MOST_CLOSE → AreLight (2 ^ 120) sums → now ≡ with_parts sums (map (barrier_at s x) (take i pairs)) → AreLight (2 ^ 125) now
light s x pairs i sums now close few small made =
    let done = take i pairs in
    parts_light (2 ^ 120) (2 ^ 125) sums now (map (barrier_at s x) done) (omega (arith, length-map done (barrier_at s x), length-take i pairs, few))
    (All-map IsSmall (barrier_at s x) done (λ k d l. barrier-part-small s.numbers x (part_pair s.surface (get_or done k d)) (All-take (IsClosePair s x) i pairs close k d l).close)) small made

pub add_pulls-requires-clause-small : goal.add_pulls-requires-clause-small
add_pulls-requires-clause-small c =
    lighter (2 ^ 125) (2 ^ 126 - 2 ^ 92) c.loop-pair.sums (lit≤ tt)
    (light c.args.setup.now c.args.x.now c.args.pairs.now c.loop-pair.pair-index c.args.sums.now c.loop-pair.sums c.requires.close c.requires.few c.requires.light c.loop-pair.invariant)

pub returns-clause-light : goal.returns-clause-light
returns-clause-light c = light c.args.setup.now c.args.x.now c.args.pairs.now c.loop-pair.pair-index c.args.sums.now c.loop-pair.sums c.requires.close c.requires.few c.requires.light c.loop-pair.invariant

pub add_pulls-requires-clause-pulls : goal.add_pulls-requires-clause-pulls
add_pulls-requires-clause-pulls c = subst (All IsWeak) (sym c.pulls.ensures) (barrier-part-small c.args.setup.now.numbers c.args.x.now (parts_in c.parts_of-parts.result) (held_pair c.args.setup.now c.args.x.now c.args.pairs.now c.parts_of-parts.result c.loop-pair.pair-index _ c.requires.close c.loop-pair-test.true c.parts_of-parts.ensures)).weak

pub loop-pair-preserved : goal.loop-pair-preserved
loop-pair-preserved c =
    let f : Pair → Contribution = barrier_at c.args.setup.now c.args.x.now in
    let i = c.loop-pair.pair-index in
    let none : Pair = record { kind = kinds.VE; a = 0; b = 0 } in
    c.add_pulls.ensures ∙ (λ t. with_pulls (c.loop-pair.invariant t) ((c.pulls.ensures ∙ ap (λ parts. pulls_of (barrier_contribution c.args.setup.now.numbers c.args.x.now parts)) c.parts_of-parts.ensures) t))
    ∙ sym (with_parts-push c.args.sums.now (map f (take i c.args.pairs.now)) (f (get_or c.args.pairs.now i none)))
    ∙ ap (with_parts c.args.sums.now) (sym (map_more f c.args.pairs.now i none c.loop-pair-test.true))
