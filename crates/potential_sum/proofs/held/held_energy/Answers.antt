use Rattle.std.proofs.Common.{◌≡◌, ◌∙◌, ◌&&◌, ◌≤◌, ℤ, Bool, true, false, List, length, map, refl, ap, subst, sym, unsigned_abs, arith}
use Rattle.std.specs.Prelude.{All, filter, not}
use Rattle.std.proofs.lemmas.List.Elements.{All-filter}
use Rattle.list_laws.specs.Sums.{total}
use Rattle.list_laws.proofs.Filters.{filter-map}
use Rattle.std.proofs.lemmas.Simd.{map-map}
use Rattle.space3.specs.declared.vectors.V3.{V3}
use Rattle.boundary.specs.declared.pairs.Pair.{Pair}
use Rattle.boundary.specs.Pairs.{part_pair}
use Rattle.boundary.proofs.PairNodes.{few_pass}
use Rattle.broad_grid.specs.Held.{are_held, is_loose}
use Rattle.broad_grid.specs.NearPairs.{close_pairs_of}
use Rattle.broad_grid.proofs.KeptAll.{close_are_pairs}
use Rattle.surface_mesh.specs.declared.setup.Setup.{Setup}
use Rattle.surface_mesh.specs.Setup.{IsSetup}
use Rattle.potential_sum.specs.declared.bodies.Body.{Body}
use Rattle.potential_sum.specs.declared.contacts.TheConstants.{MOST_CLOSE}
use Rattle.potential_sum.specs.Calls.Barriers.{IsClosePair}
use Rattle.potential_sum.specs.Calls.Kept.{MayStand, elastic_in}
use Rattle.potential_sum.specs.Contacts.{nodes_of_parts}
use Rattle.potential_sum.specs.Contributions.{Contribution, barrier_contribution, elastic_contribution}
use Rattle.potential_sum.specs.Held.{held_parts, held_tets}
use Rattle.potential_sum.specs.Upright.{IsUpright}
use Rattle.potential_sum.proofs.CloseParts.{found_are_close, found_are_few}
use Rattle.potential_sum.proofs.Energies.{elastic-kept, energies-map}
use Rattle.potential_sum.proofs.KeptTerms.{both_energies}
use Rattle.potential_sum.proofs.LooseParts.{are_held-append}
use Rattle.potential_sum.proofs.Standing.{bodies_may_stand, few_bodies}
use Rattle.potential_sum.proofs.held.held_energy.Goals as goal

-- the held ones among the close pairs
abbrev held_among : Setup → List Pair → List Pair
held_among s pairs = filter (λ p. not (is_loose s.fixed s.surface p)) pairs

held_close : (s : Setup) (x : List V3) (pairs held : List Pair) → IsSetup s → IsUpright s x → pairs ≡ close_pairs_of (unsigned_abs s.numbers.dhat) s.surface x → held ≡ held_among s pairs → All (IsClosePair s x) held
held_close s x pairs held built pose e f = subst (All (IsClosePair s x)) (sym f) (All-filter (λ p. not (is_loose s.fixed s.surface p)) (IsClosePair s x) pairs (found_are_close s x pairs built pose e))

held_few : (s : Setup) (x : List V3) (pairs held : List Pair) → IsSetup s → pairs ≡ close_pairs_of (unsigned_abs s.numbers.dhat) s.surface x → held ≡ held_among s pairs → length held ≤ MOST_CLOSE
held_few s x pairs held built e f = omega (arith, ap length f, few_pass (λ p. not (is_loose s.fixed s.surface p)) pairs, found_are_few s x pairs built e)

-- their parts
held_pairs : (s : Setup) (x : List V3) (pairs held : List Pair) → pairs ≡ close_pairs_of (unsigned_abs s.numbers.dhat) s.surface x → held ≡ held_among s pairs → map (part_pair s.surface) held ≡ held_parts s x
held_pairs s x pairs held e f =
    ap (map (part_pair s.surface)) (f ∙ ap (held_among s) e) ∙ (λ i. map (part_pair s.surface) (filter (λ p. each p i) close))
    ∙ sym (filter-map (λ parts. are_held s.fixed (nodes_of_parts parts)) (part_pair s.surface) close)
  where
    close : List Pair
    close = close_pairs_of (unsigned_abs s.numbers.dhat) s.surface x

    twice : (b : Bool) → not (not b) ≡ b
    twice true = refl
    twice false = refl

    each : (p : Pair) → not (is_loose s.fixed s.surface p) ≡ are_held s.fixed (nodes_of_parts (part_pair s.surface p))
    each p =
        let nodes = part_pair s.surface p in
        twice (are_held s.fixed nodes.left && are_held s.fixed nodes.right) ∙ sym (are_held-append s.fixed nodes.left nodes.right)

pub held_among-requires : goal.held_among-requires
held_among-requires c = close_are_pairs c.args.setup.now.surface (unsigned_abs c.args.setup.now.numbers.dhat) c.args.x.now c.args.pairs.now c.requires.close

pub elastic_energy-elastic-requires-clause-few : goal.elastic_energy-elastic-requires-clause-few
elastic_energy-elastic-requires-clause-few c =
    subst (λ (bodies : List Body). length bodies ≤ 65536) (sym c.as_slice.ensures.value) (few_bodies c.args.setup.now (λ tet. are_held c.args.setup.now.fixed tet.nodes) c.in_ok-bodies.bodies.items c.requires.built c.in_ok-bodies.ensures)

pub elastic_energy-elastic-requires-clause-stand : goal.elastic_energy-elastic-requires-clause-stand
elastic_energy-elastic-requires-clause-stand c =
    subst (All (λ body. MayStand c.args.x.now (elastic_in body))) (sym c.as_slice.ensures.value)
    (bodies_may_stand c.args.setup.now c.args.x.now (λ tet. are_held c.args.setup.now.fixed tet.nodes) c.in_ok-bodies.bodies.items c.requires.built c.requires.pose c.in_ok-bodies.ensures)

-- by these flags
by_flags : (s : Setup) (pairs : List Pair) (fixed : List Bool) → fixed ≡ s.fixed → filter (λ p. not (is_loose fixed s.surface p)) pairs ≡ held_among s pairs
by_flags s pairs fixed e = λ i. filter (λ p. not (is_loose (e i) s.surface p)) pairs

pub barrier_energy_of-barriers-requires-clause-close : goal.barrier_energy_of-barriers-requires-clause-close
barrier_energy_of-barriers-requires-clause-close c = held_close c.args.setup.now c.args.x.now c.args.pairs.now c.as_slice-2.result.now c.requires.built c.requires.pose c.requires.close (c.as_slice-2.ensures.value ∙ c.in_ok-pairs.ensures ∙ by_flags c.args.setup.now c.args.pairs.now c.items.result.now c.items.ensures)

pub barrier_energy_of-barriers-requires-clause-few : goal.barrier_energy_of-barriers-requires-clause-few
barrier_energy_of-barriers-requires-clause-few c = held_few c.args.setup.now c.args.x.now c.args.pairs.now c.as_slice-2.result.now c.requires.built c.requires.close (c.as_slice-2.ensures.value ∙ c.in_ok-pairs.ensures ∙ by_flags c.args.setup.now c.args.pairs.now c.items.result.now c.items.ensures)

pub returns-clause-value : goal.returns-clause-value
returns-clause-value c =
    let s = c.args.setup.now in
    let x = c.args.x.now in
    let energy : Contribution → ℤ = λ part. part.energy in
    (both_energies _ _ _ _
    (c.elastic_energy-elastic.ensures.value ∙ ap (λ (bodies : List Body). total (map (λ body. (elastic_contribution x (elastic_in body)).energy) bodies)) c.as_slice.ensures.value
    ∙ elastic-kept x (held_tets s) c.in_ok-bodies.bodies.items c.in_ok-bodies.ensures ∙ ap total (map-map energy (elastic_contribution x) (held_tets s)))
    (c.barrier_energy_of-barriers.ensures.value
    ∙ energies-map (barrier_contribution s.numbers x) (part_pair s.surface) c.as_slice-2.result.now (held_parts s x) (held_pairs s x c.args.pairs.now c.as_slice-2.result.now c.requires.close (c.as_slice-2.ensures.value ∙ c.in_ok-pairs.ensures ∙ by_flags c.args.setup.now c.args.pairs.now c.items.result.now c.items.ensures))
    ∙ ap total (map-map energy (barrier_contribution s.numbers x) (held_parts s x)))
    c.elastic_energy-elastic.ensures.small c.barrier_energy_of-barriers.ensures.small).sum
