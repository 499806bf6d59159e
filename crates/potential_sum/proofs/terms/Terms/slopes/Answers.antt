use Rattle.std.proofs.Common.{◌≡◌, ◌∙◌, ◌++◌, ◌^◌, take, drop, ℕ, ℤ, false, List, map, length, get_or, ap, subst, sym, rules}
use Rattle.std.specs.Prelude.{All, Bool, slice_index_or}
use Rattle.std.specs.List.{flat_map, range_with_len}
use Rattle.std.proofs.lemmas.List.Elements.{All-map}
use Rattle.space3.specs.declared.vectors.V3.{V3}
use Rattle.boundary.specs.declared.pairs.Pair.{Pair}
use Rattle.boundary.specs.Pairs.{part_pair}
use Rattle.friction_lag.specs.declared.contacts.Contact.{Contact}
use Rattle.friction_lag.specs.Lagged.{lagged_in}
use Rattle.potential_sum.specs.declared.bodies.Body.{Body}
use Rattle.potential_sum.specs.Calls.Barriers.{barrier_at}
use Rattle.potential_sum.specs.Calls.Friction.{friction_at}
use Rattle.potential_sum.specs.Calls.Inertia.{part_at}
use Rattle.potential_sum.specs.Calls.Kept.{MayStand, elastic_in}
use Rattle.potential_sum.specs.Calls.Sums.{AreLight, node_sums, nothing, numbers_of, with_parts}
use Rattle.potential_sum.specs.Contributions.{Contribution, elastic_contribution}
use Rattle.potential_sum.specs.Calls.Loose.{loose_contributions}
use Rattle.potential_sum.specs.Terms.{KeptTerms}
use Rattle.potential_sum.proofs.CloseParts.{loose_are_close, loose_are_few}
use Rattle.potential_sum.proofs.Gradients.{contributions-kept, node_sums-permutation, numbers-sums}
use Rattle.potential_sum.proofs.FrameContacts.{few_held, held_may_slide}
use Rattle.potential_sum.proofs.KeptTerms.{elastic_kept, movers}
use Rattle.potential_sum.proofs.Parts.{barrier-part-inside, friction-part-inside}
use Rattle.potential_sum.proofs.PullSums.{IsInside, length-node_sums, with_parts-sums, written_back}
use Rattle.potential_sum.proofs.Standing.{bodies_may_stand, few_bodies}
use Rattle.potential_sum.proofs.terms.Terms.slopes.Goals as goal

pub body_sums-requires-clause-nodes : goal.body_sums-requires-clause-nodes
body_sums-requires-clause-nodes c =
    movers c.args.setup.now c.args.self.now c.args.x.now c.items.result.now c.as_slice.result.now c.requires.built c.requires.sturdy c.requires.stand c.requires.pose
    c.items.ensures (c.as_slice.ensures.value ∙ ap (λ (t : KeptTerms). t.frame.targets) c.self.view_is)

pub body_sums-requires-clause-stand : goal.body_sums-requires-clause-stand
body_sums-requires-clause-stand c =
    subst (All (λ body. MayStand c.args.x.now (elastic_in body))) (sym c.as_slice-2.ensures.value)
    (bodies_may_stand c.args.setup.now c.args.x.now _ c.self.inside.bodies.items c.requires.built c.requires.pose (elastic_kept c.args.setup.now c.args.self.now _ (ap (λ (t : KeptTerms). t.elastic) c.self.view_is) c.requires.stand))

pub body_sums-requires-clause-few_bodies : goal.body_sums-requires-clause-few_bodies
body_sums-requires-clause-few_bodies c =
    few_bodies c.args.setup.now _ c.as_slice-2.result.now c.requires.built
    (elastic_kept c.args.setup.now c.args.self.now _ (ap (map elastic_in) c.as_slice-2.ensures.value ∙ ap (λ (t : KeptTerms). t.elastic) c.self.view_is) c.requires.stand)

pub add_barrier_pulls-requires-clause-close : goal.add_barrier_pulls-requires-clause-close
add_barrier_pulls-requires-clause-close c = loose_are_close c.args.setup.now c.args.x.now c.items-2.result.now c.requires.built c.requires.pose (c.items-2.ensures ∙ c.in_ok-pairs.ensures)

pub add_barrier_pulls-requires-clause-few : goal.add_barrier_pulls-requires-clause-few
add_barrier_pulls-requires-clause-few c = loose_are_few c.args.setup.now c.args.x.now c.items-2.result.now c.requires.built (c.items-2.ensures ∙ c.in_ok-pairs.ensures)

pub add_barrier_pulls-requires-clause-nodes : goal.add_barrier_pulls-requires-clause-nodes
add_barrier_pulls-requires-clause-nodes c =
    ap length (c.deref_mut.ensures.value ∙ c.in_ok-sums.ensures.sums)
    ∙ length-node_sums (length c.args.x.now) (map (part_at c.items.result.now c.as_slice.result.now c.args.x.now) (range_with_len 0 (length c.args.x.now)) ++ map (λ body. elastic_contribution c.args.x.now (elastic_in body)) c.as_slice-2.result.now)

pub add_friction_pulls-requires-clause-slide : goal.add_friction_pulls-requires-clause-slide
add_friction_pulls-requires-clause-slide c =
    held_may_slide c.args.setup.now c.args.x.now c.as_slice-3.result.now c.args.self.now.frame.contacts c.requires.built c.requires.pose c.requires.stand.contacts (ap (map lagged_in) c.as_slice-3.ensures.value ∙ ap (λ (t : KeptTerms). t.frame.contacts) c.self.view_is)

pub add_friction_pulls-requires-clause-few : goal.add_friction_pulls-requires-clause-few
add_friction_pulls-requires-clause-few c =
    few_held c.as_slice-3.result.now c.args.self.now.frame.contacts c.requires.stand.few (ap (map lagged_in) c.as_slice-3.ensures.value ∙ ap (λ (t : KeptTerms). t.frame.contacts) c.self.view_is)

-- the sums after the barriers were added
after_barriers : (c : goal.After-as_slice-3) → c.deref_mut-2.result.now ≡ c.add_barrier_pulls.new.sums
after_barriers c =
    let whole : length c.add_barrier_pulls.new.sums ≡ c.in_ok-sums.sums.len = search rules in
    c.deref_mut-2.ensures.value ∙ written_back c.add_barrier_pulls.new.sums c.in_ok-sums.sums.items c.in_ok-sums.sums.len whole

pub add_friction_pulls-requires-clause-nodes : goal.add_friction_pulls-requires-clause-nodes
add_friction_pulls-requires-clause-nodes c =
    ap length (after_barriers c) ∙ c.add_barrier_pulls.auto.sums ∙ ap length (c.deref_mut.ensures.value ∙ c.in_ok-sums.ensures.sums)
    ∙ length-node_sums (length c.args.x.now) (map (part_at c.items.result.now c.as_slice.result.now c.args.x.now) (range_with_len 0 (length c.args.x.now)) ++ map (λ body. elastic_contribution c.args.x.now (elastic_in body)) c.as_slice-2.result.now)

pub add_friction_pulls-requires-clause-light : goal.add_friction_pulls-requires-clause-light
add_friction_pulls-requires-clause-light c = subst (AreLight (2 ^ 125)) (sym (after_barriers c)) c.add_barrier_pulls.ensures.light

pub returns : goal.returns
returns c =
    let s = c.args.setup.now in
    let x = c.args.x.now in
    let n = length x in
    let bodies = c.self.inside.bodies.items in
    let contacts = c.self.inside.contacts.items in
    let frame = c.args.self.now.frame in
    let inertia : List ℤ → List V3 → List Contribution = λ masses aims. map (part_at masses aims x) (range_with_len 0 n) in
    let elasticity : List Body → List Contribution = map (λ body. elastic_contribution x (elastic_in body)) in
    let near : List Pair → List Contribution = map (barrier_at s x) in
    let rubbing : List Contact → List Contribution = map (friction_at s.numbers x) in
    let targets = c.as_slice.ensures.value ∙ ap (λ (t : KeptTerms). t.frame.targets) c.self.view_is in
    let lagged : map lagged_in contacts ≡ frame.contacts = ap (λ (t : KeptTerms). t.frame.contacts) c.self.view_is in
    let kept = elastic_kept s c.args.self.now _ (ap (λ (t : KeptTerms). t.elastic) c.self.view_is) c.requires.stand in
    let whole : length c.add_barrier_pulls.new.sums ≡ c.in_ok-sums.sums.len = search rules in
    let whole_after : length c.add_friction_pulls.new.sums ≡ c.in_ok-sums.sums.len = search rules in
    let of_bodies : c.deref_mut.result.now ≡ node_sums n (inertia s.mass frame.targets ++ elasticity bodies) =
    c.deref_mut.ensures.value ∙ c.in_ok-sums.ensures.sums ∙ (λ i. node_sums n (inertia (c.items.ensures i) (targets i) ++ elasticity (c.as_slice-2.ensures.value i))) in
    let of_surface : c.deref_mut-2.result.now ≡ node_sums n (inertia s.mass frame.targets ++ elasticity bodies ++ near c.in_ok-pairs.pairs) =
    c.deref_mut-2.ensures.value ∙ written_back c.add_barrier_pulls.new.sums c.in_ok-sums.sums.items c.in_ok-sums.sums.len whole
    ∙ c.add_barrier_pulls.ensures.sums ∙ (λ i. with_parts (of_bodies i) (near (c.items-2.ensures i)))
    ∙ with_parts-sums n (inertia s.mass frame.targets ++ elasticity bodies) (near c.in_ok-pairs.pairs)
    (All-map (IsInside n) (barrier_at s x) c.in_ok-pairs.pairs (λ k d l. barrier-part-inside s.numbers x (part_pair s.surface (get_or c.in_ok-pairs.pairs k d)) (loose_are_close s x c.in_ok-pairs.pairs c.requires.built c.requires.pose c.in_ok-pairs.ensures k d l).close)) in
    let sums : c.as_slice-4.result.now ≡ node_sums n (loose_contributions s frame x) =
    c.as_slice-4.ensures.value ∙ written_back c.add_friction_pulls.new.sums (take c.in_ok-sums.sums.len (c.add_barrier_pulls.new.sums ++ drop (length c.add_barrier_pulls.new.sums) c.in_ok-sums.sums.items)) c.in_ok-sums.sums.len whole_after
    ∙ c.add_friction_pulls.ensures ∙ (λ i. with_parts (of_surface i) (rubbing (c.as_slice-3.ensures.value i)))
    ∙ with_parts-sums n (inertia s.mass frame.targets ++ elasticity bodies ++ near c.in_ok-pairs.pairs) (rubbing contacts)
    (All-map (IsInside n) (friction_at s.numbers x) contacts (λ k d l. friction-part-inside s.numbers x (lagged_in (get_or contacts k d)) (held_may_slide s x contacts frame.contacts c.requires.built c.requires.pose c.requires.stand.contacts lagged k d l)))
    ∙ node_sums-permutation n (loose_contributions s frame x) _ (contributions-kept s frame x bodies c.in_ok-pairs.pairs contacts c.requires.pose.each kept c.in_ok-pairs.ensures lagged) in
    c.in_ok-made.ensures
    ∙ ap (λ (fixed : List Bool). flat_map (λ (node : ℕ). numbers_of (slice_index_or fixed node false) (slice_index_or c.as_slice-4.result.now node nothing)) (range_with_len 0 (length c.as_slice-4.result.now))) c.items-3.ensures
    ∙ numbers-sums s frame x c.as_slice-4.result.now c.requires.pose.each sums
