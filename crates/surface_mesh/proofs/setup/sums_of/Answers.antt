use Rattle.std.proofs.Common.{◌≡◌, ◌∙◌, ◌≤◌, ◌<◌, List, [], ◌∷◌, ◌++◌, take, drop, length, get_or, replicate, sym, ap, subst, arith, rules}
use Rattle.std.proofs.lemmas.Int.{to_z-of_z}
use Rattle.std.specs.Int.{w128}
use Rattle.space3.specs.Mesh.{IsSoundTet}
use Rattle.surface_mesh.specs.declared.shares.Share.{Share}
use Rattle.surface_mesh.specs.Materials.{IsMaterial, material_of}
use Rattle.surface_mesh.specs.Calls.Shares.{with_share, nothing, share_of}
use Rattle.surface_mesh.specs.Setup.{rest_of}
use Rattle.surface_mesh.proofs.SetupFacts.{material_is_in_range}
use Rattle.surface_mesh.proofs.GivenShares.{written_back}
use Rattle.surface_mesh.proofs.FirstTets.{AreSumsOf-none, stays_small, as_many, AreSumsOf-push, all_shares}
use Rattle.surface_mesh.proofs.setup.sums_of.Goals as goal

pub loop-tet-init : goal.loop-tet-init
loop-tet-init c =
    let made : c.in_ok-shares.shares.items ≡ replicate (length c.items.result.now) nothing = search rules in
    AreSumsOf-none c.args.mesh.now c.args.numbers.now c.in_ok-rest.rest.items c.in_ok-shares.shares.items c.in_ok-rest.ensures.items (rw (← c.items.ensures) made)

pub of-share-requires-clause-material : goal.of-share-requires-clause-material
of-share-requires-clause-material c = subst IsMaterial (sym c.material_of.ensures) (material_is_in_range c.args.numbers.now c.tet-item.result c.requires.in_range)

pub add_share-requires-clause-there : goal.add_share-requires-clause-there
add_share-requires-clause-there c =
    let there : c.loop-tet.tet-index < length c.args.mesh.now.tets = search rules in
    let at : c.tet-item.result ≡ get_or c.args.mesh.now.tets c.loop-tet.tet-index c.tet-item.result = search rules in
    let sound : IsSoundTet (length c.args.mesh.now.numbers) c.tet-item.result = subst (IsSoundTet (length c.args.mesh.now.numbers)) (sym at) (c.requires.sound.tets c.loop-tet.tet-index c.tet-item.result there) in
    rw (c.deref_mut.ensures.value, as_many c.args.mesh.now c.args.numbers.now c.loop-tet.tet-index c.loop-tet.rest.items c.loop-tet.shares.items c.loop-tet.invariant) sound.there

pub add_share-requires-clause-small : goal.add_share-requires-clause-small
add_share-requires-clause-small c =
    let there : c.loop-tet.tet-index < length c.args.mesh.now.tets = search rules in
    let few : c.loop-tet.tet-index ≤ 65536 = omega (arith, there, c.requires.sound.few_tets) in
    rw c.deref_mut.ensures.value (stays_small c.args.mesh.now c.args.numbers.now c.loop-tet.tet-index c.loop-tet.rest.items c.loop-tet.shares.items few c.loop-tet.invariant)

pub loop-tet-preserved : goal.loop-tet-preserved
loop-tet-preserved c =
    let there : c.loop-tet.tet-index < length c.args.mesh.now.tets = search rules in
    let at : c.tet-item.result ≡ get_or c.args.mesh.now.tets c.loop-tet.tet-index c.tet-item.result = search rules in
    let sound : IsSoundTet (length c.args.mesh.now.numbers) c.tet-item.result = subst (IsSoundTet (length c.args.mesh.now.numbers)) (sym at) (c.requires.sound.tets c.loop-tet.tet-index c.tet-item.result there) in
    let same : c.of-share.result ≡ share_of (material_of c.args.numbers.now c.tet-item.result) (rest_of c.args.mesh.now c.tet-item.result) =
    c.of-share.ensures.value ∙ (λ i. share_of (c.material_of.ensures i) ((to_z-of_z w128 c.rest_det-rest_of_tet.result (record { sfits = c.rest_det-rest_of_tet.type_inv }) ∙ c.rest_det-rest_of_tet.ensures.value) i)) in
    let pushed : c.push.new.self.items ≡ c.loop-tet.rest.items ++ c.rest_det-rest_of_tet.result ∷ [] = search rules in
    let whole : length c.add_share.new.shares ≡ c.loop-tet.shares.len = search rules in
    let back : take c.loop-tet.shares.len (c.add_share.new.shares ++ drop (length c.add_share.new.shares) c.loop-tet.shares.items) ≡ with_share c.of-share.result c.loop-tet.shares.items c.tet-item.result.nodes =
    written_back c.add_share.new.shares c.loop-tet.shares.items c.loop-tet.shares.len whole ∙ c.add_share.ensures ∙ ap (λ (shares : List Share). with_share c.of-share.result shares c.tet-item.result.nodes) c.deref_mut.ensures.value in
    AreSumsOf-push c.args.mesh.now c.args.numbers.now c.loop-tet.tet-index c.loop-tet.rest.items c.push.new.self.items c.loop-tet.shares.items _ c.tet-item.result c.of-share.result there at sound same c.of-share.ensures.bound
    (pushed ∙ ap (λ x. c.loop-tet.rest.items ++ x ∷ []) c.rest_det-rest_of_tet.ensures.value) back c.loop-tet.invariant

pub returns-clause-shares : goal.returns-clause-shares
returns-clause-shares c =
    let past : length c.args.mesh.now.tets ≤ c.loop-tet.tet-index = search rules in
    all_shares c.args.mesh.now c.args.numbers.now c.loop-tet.tet-index c.loop-tet.rest.items c.loop-tet.shares.items past c.loop-tet.invariant
