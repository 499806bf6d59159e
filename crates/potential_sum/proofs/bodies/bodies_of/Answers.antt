use Rattle.std.proofs.Common.{◌≡◌, ◌∙◌, ℕ, ◌≤◌, ◌<◌, List, [], ◌∷◌, length, map, get_or, refl, sym, ap, subst, arith}
use Rattle.std.specs.Prelude.{All, Bool, true, false, if◌then◌else◌}
use Rattle.std.specs.List.{filter, range_with_len}
use Rattle.std.specs.List.Sorted.{IsPermutation}
use Rattle.std.proofs.lemmas.List.{ext_get_or}
use Rattle.std.proofs.lemmas.List.FromFn.{get_or-map-range_with_len, length-map-range_with_len}
use Rattle.std.proofs.lemmas.List.Sorted.{IsPermutation-map}
use Rattle.std.proofs.lemmas.Result.{IfOk-weaker}
use Rattle.std.proofs.lemmas.Simd.{map-map}
use Rattle.list_laws.proofs.Filters.{filter-map}
use Rattle.space3.specs.declared.lists.Tet.{Tet}
use Rattle.space3.specs.Mesh.{HasNodes}
use Rattle.surface_mesh.specs.declared.setup.Setup.{Setup}
use Rattle.surface_mesh.specs.Setup.{IsSetup}
use Rattle.potential_sum.specs.declared.bodies.Body.{Body}
use Rattle.potential_sum.specs.declared.turns.Turn.{Turn}
use Rattle.potential_sum.specs.Bodies.{ElasticTet, elastic_of, elastic_tets}
use Rattle.potential_sum.specs.Calls.Kept.{elastic_in}
use Rattle.potential_sum.specs.Calls.Turns.{is_held_as, positions_of}
use Rattle.potential_sum.specs.Held.{held_tets, loose_tets}
use Rattle.potential_sum.proofs.bodies.bodies_of.Goals as goal

first : {X : Type 0} (xs : List X) → 1 ≤ length xs → X
first [] some = absurd (omega arith)
first (x ∷ xs) some = x

-- a list by its positions
by_positions : {X : Type 0} (xs : List X) (d : X) → map (λ i. get_or xs i d) (range_with_len 0 (length xs)) ≡ xs
by_positions xs d = ext_get_or d (map (λ i. get_or xs i d) (range_with_len 0 (length xs))) xs (length-map-range_with_len (λ i. get_or xs i d) 0 (length xs))
    (λ k l. get_or-map-range_with_len (λ i. get_or xs i d) 0 (length xs) k k d (omega (arith, l, length-map-range_with_len (λ i. get_or xs i d) 0 (length xs))) (omega arith))

-- the tetrahedra that are asked for
of_kind : (s : Setup) (held : Bool) → filter (λ tet. is_held_as held s.fixed tet.nodes) (elastic_tets s) ≡ (if held then held_tets s else loose_tets s)
of_kind s true = refl
of_kind s false = refl

in_turns : (s : Setup) (held : Bool) (turns : List Turn) (bodies : List Body) → IsSetup s → ((d : Tet) → IsPermutation (positions_of held s.fixed s.mesh.tets d) (map (λ turn. turn.tet) turns))
    → ((d : Tet) → map elastic_in bodies ≡ map (λ turn. elastic_of s (get_or s.mesh.tets turn.tet d)) turns) → IsPermutation (if held then held_tets s else loose_tets s) (map elastic_in bodies)
in_turns s held turns bodies built each made =
    let d : Tet = first s.mesh.tets built.mesh_is_sound.some_tets in
    let at : ℕ → ElasticTet = λ i. elastic_of s (get_or s.mesh.tets i d) in
    let test : ElasticTet → Bool = λ tet. is_held_as held s.fixed tet.nodes in
    let n : ℕ = length s.mesh.tets in
    let all : map at (range_with_len 0 n) ≡ elastic_tets s = sym (map-map (elastic_of s) (λ i. get_or s.mesh.tets i d) (range_with_len 0 n)) ∙ ap (map (elastic_of s)) (by_positions s.mesh.tets d) in
    let those : map at (positions_of held s.fixed s.mesh.tets d) ≡ (if held then held_tets s else loose_tets s) = sym (filter-map test at (range_with_len 0 n)) ∙ ap (filter test) all ∙ of_kind s held in
    let these : map at (map (λ turn. turn.tet) turns) ≡ map elastic_in bodies = map-map at (λ turn. turn.tet) turns ∙ sym (made d) in
    subst (λ (list : List ElasticTet). IsPermutation list (map elastic_in bodies)) those
    (subst (λ (list : List ElasticTet). IsPermutation (map at (positions_of held s.fixed s.mesh.tets d)) list) these
    (IsPermutation-map at (positions_of held s.fixed s.mesh.tets d) (map (λ turn. turn.tet) turns) (each d)))

pub turns_of-requires : goal.turns_of-requires
turns_of-requires c =
    let mesh = c.args.setup.now.mesh in
    let sound = c.requires.built.mesh_is_sound in
    record {
      few = subst (λ (tets : List Tet). length tets ≤ 65536) (sym c.items.ensures) sound.few_tets;
      there =
          subst (λ (tets : List Tet). All (λ tet. HasNodes mesh.places tet.nodes) tets) (sym c.items.ensures)
          (λ k d l. subst (λ n. All (λ node. node < n) (get_or mesh.tets k d).nodes) sound.placed (sound.tets k d l).there);
    }

pub bodies_in_turns-requires-clause-there : goal.bodies_in_turns-requires-clause-there
bodies_in_turns-requires-clause-there c =
    subst (λ (turns : List Turn). All (λ turn. turn.tet < length c.args.setup.now.mesh.tets) turns) (sym c.as_slice.ensures.value)
    (subst (λ (tets : List Tet). All (λ turn. turn.tet < length tets) c.in_ok-turns.turns.items) c.items.ensures c.in_ok-turns.ensures.there)

pub returns : goal.returns
returns c =
    let setup = c.args.setup.now in
    let each : (d : Tet) → IsPermutation (positions_of c.args.held setup.fixed setup.mesh.tets d) (map (λ (turn : Turn). turn.tet) c.as_slice.result.now) =
    λ d. subst (λ (turns : List Turn). IsPermutation (positions_of c.args.held setup.fixed setup.mesh.tets d) (map (λ turn. turn.tet) turns)) (sym c.as_slice.ensures.value)
    (subst (λ (list : List ℕ). IsPermutation list (map (λ (turn : Turn). turn.tet) c.in_ok-turns.turns.items))
    (λ i. positions_of c.args.held (c.items-2.ensures i) (c.items.ensures i) d) (c.in_ok-turns.ensures.each d)) in
    IfOk-weaker c.bodies_in_turns.result _ _ (λ made h. in_turns setup c.args.held c.as_slice.result.now made.items c.requires.built each h) c.bodies_in_turns.ensures
