use Rattle.std.proofs.Common.{◌∙◌, ◌-◌, ◌^◌, [], ◌∷◌, map, ap, subst, sym, arith}
use Rattle.std.specs.Prelude.{All}
use Rattle.std.specs.List.{range_with_len}
use Rattle.std.proofs.lemmas.List.FromFn.{length-map-range_with_len, map-range_with_len_more}
use Rattle.potential_sum.specs.Calls.Inertia.{part_at}
use Rattle.potential_sum.specs.Calls.Sums.{with_parts, with_pulls}
use Rattle.potential_sum.proofs.Lightness.{IsWeak, parts_light}
use Rattle.potential_sum.proofs.Parts.{inertia-part-small, inertia-parts-small}
use Rattle.potential_sum.proofs.PullSums.{with_parts-push}
use Rattle.potential_sum.proofs.inertia.add_inertia_pulls.Goals as goal

pub add_pulls-requires-clause-small : goal.add_pulls-requires-clause-small
add_pulls-requires-clause-small c =
    let f = part_at c.args.masses.now c.args.targets.now c.args.x.now in
    parts_light (2 ^ 118) (2 ^ 126 - 2 ^ 92) c.args.sums.now c.loop-node.sums (map f (range_with_len 0 c.loop-node.node)) (omega (arith, length-map-range_with_len f 0 c.loop-node.node, c.requires.few, c.loop-node-test.true))
    (inertia-parts-small c.args.masses.now c.args.targets.now c.args.x.now c.loop-node.node) c.requires.small c.loop-node.invariant

pub add_pulls-requires-clause-pulls : goal.add_pulls-requires-clause-pulls
add_pulls-requires-clause-pulls c = subst (λ pull. All IsWeak (pull ∷ [])) (sym c.node_pull.ensures) (inertia-part-small c.args.masses.now c.args.targets.now c.args.x.now c.loop-node.node).weak

pub loop-node-preserved : goal.loop-node-preserved
loop-node-preserved c =
    let f = part_at c.args.masses.now c.args.targets.now c.args.x.now in
    let i = c.loop-node.node in
    c.add_pulls.ensures ∙ (λ t. with_pulls (c.loop-node.invariant t) (c.node_pull.ensures t ∷ []))
    ∙ sym (with_parts-push c.args.sums.now (map f (range_with_len 0 i)) (f i))
    ∙ ap (with_parts c.args.sums.now) (sym (map-range_with_len_more f 0 i i (omega arith)))
