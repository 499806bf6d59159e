use Rattle.std.proofs.Common.{◌≡◌, ◌∙◌, ℕ, ◌<◌, List, [], ◌∷◌, ◌++◌, length, map, get_or, sym, ap, subst, rules}
use Rattle.std.proofs.lemmas.List.{get_or_default, map-append, map_more, take_all}
use Rattle.space3.specs.declared.lists.Tet.{Tet}
use Rattle.surface_mesh.proofs.SetupFacts.{material_is_in_range}
use Rattle.neo_hooke.specs.Rest.{CanRest}
use Rattle.potential_sum.specs.declared.turns.Turn.{Turn}
use Rattle.potential_sum.specs.Bodies.{ElasticTet, corners_at, elastic_of}
use Rattle.potential_sum.specs.Calls.Kept.{elastic_in}
use Rattle.potential_sum.proofs.Standing.{may_rest}
use Rattle.potential_sum.proofs.bodies.bodies_in_turns.Goals as goal

abbrev turn_at : List Turn → ℕ → Turn
turn_at turns i = get_or turns i (record { along = 0; tet = 0 })

-- the tetrahedron that is looked at
read : (tets seen : List Tet) (i : ℕ) (tet d : Tet) → seen ≡ tets → tet ≡ get_or seen i tet → i < length tets → tet ≡ get_or tets i d
read tets seen i tet d same at there = at ∙ ap (λ (l : List Tet). get_or l i tet) same ∙ get_or_default tets i tet d there

pub body_of-requires-clause-rest : goal.body_of-requires-clause-rest
body_of-requires-clause-rest c =
    let tets = c.args.setup.now.mesh.tets in
    let turn : Turn = turn_at c.args.turns.now c.loop-turn.turn-index in
    let there : turn.tet < length tets = c.requires.there c.loop-turn.turn-index (record { along = 0; tet = 0 }) c.loop-turn-test.true in
    let tet = c.index-tets-turn.result in
    subst (λ (t : Tet). CanRest (corners_at c.args.setup.now.mesh.places t.nodes))
    (sym (read tets c.items-tets.result.now turn.tet tet tet c.items-tets.ensures c.index-tets-turn.is there))
    (may_rest c.args.setup.now c.requires.built c.requires.sturdy turn.tet tet there)

pub body_of-requires-clause-material : goal.body_of-requires-clause-material
body_of-requires-clause-material c = material_is_in_range c.args.setup.now.numbers c.index-tets-turn.result c.requires.built.in_range

pub loop-turn-preserved : goal.loop-turn-preserved
loop-turn-preserved c d =
    let tets = c.args.setup.now.mesh.tets in
    let elastic : Turn → ElasticTet = λ turn. elastic_of c.args.setup.now (get_or tets turn.tet d) in
    let turn : Turn = turn_at c.args.turns.now c.loop-turn.turn-index in
    let there : turn.tet < length tets = c.requires.there c.loop-turn.turn-index (record { along = 0; tet = 0 }) c.loop-turn-test.true in
    let tet = c.index-tets-turn.result in
    let at : tet ≡ get_or tets turn.tet d = read tets c.items-tets.result.now turn.tet tet d c.items-tets.ensures c.index-tets-turn.is there in
    let pushed : c.push.new.self.items ≡ c.loop-turn.made.items ++ c.body_of.result ∷ [] = search rules in
    ap (map elastic_in) pushed ∙ map-append elastic_in c.loop-turn.made.items (c.body_of.result ∷ [])
    ∙ (λ i. c.loop-turn.invariant d i ++ (c.body_of.ensures ∙ ap (elastic_of c.args.setup.now) at) i ∷ [])
    ∙ sym (map_more elastic c.args.turns.now c.loop-turn.turn-index (record { along = 0; tet = 0 }) c.loop-turn-test.true)

pub returns : goal.returns
returns c d =
    let elastic : Turn → ElasticTet = λ turn. elastic_of c.args.setup.now (get_or c.args.setup.now.mesh.tets turn.tet d) in
    c.loop-turn.invariant d ∙ ap (map elastic) (take_all c.loop-turn.turn-index c.args.turns.now c.loop-turn-test.false)
