use Rattle.std.proofs.Common.{◌≡◌, ◌∙◌, ◌<◌, ◌<ℤ◌, ℕ, ℤ, pos, false, true, refl, inr, List, length, get_or, subst, sym, arith, to_z, of_z, FitsSigned, rules}
use Rattle.std.specs.Prelude.{All, int_le}
use Rattle.std.specs.Int.{w128}
use Rattle.std.proofs.lemmas.Int.{ints, to_z-of_z}
use Rattle.space3.specs.declared.lists.Tet.{Tet}
use Rattle.space3.specs.declared.vectors.V3.{V3}
use Rattle.space3.specs.Mesh.{HasNodes, rest_determinant}
use Rattle.surface_mesh.specs.declared.setup.Setup.{Setup}
use Rattle.surface_mesh.specs.Setup.{IsSetup}
use Rattle.line_search.specs.Calls.Corners.{HasCertificate, IsShort}
use Rattle.line_search.proofs.SafeSteps.{allowed_is_pose, pose_is_upright}
use Rattle.potential_sum.specs.Upright.{HasShortEdges}
use Rattle.line_search.proofs.AllPairs.{placed}
use Rattle.line_search.proofs.Certificates.{certified_step, step_pairs, step_tets}
use Rattle.line_search.proofs.allowed.lower_if_allowed.Goals as goal

-- a test of two potentials that go to their bits and back
below : (upper lower before after : ℤ) → FitsSigned w128 upper → FitsSigned w128 lower → upper ≡ before → lower ≡ after → int_le (to_z w128 (of_z w128 upper)) (to_z w128 (of_z w128 lower)) ≡ false → after <ℤ before
below upper lower before after h k e f t = rw (← e, ← f) (strict upper lower (rw (to_z-of_z w128 upper h, to_z-of_z w128 lower k) at t))
  where
    strict : (a b : ℤ) → int_le a b ≡ false → b <ℤ a
    strict a b t = omega (arith, ints)

differ : false ≡ true → ⊥
differ e = cc

-- each tetrahedron's nodes have a place
nodes_there : (s : Setup) (x : List V3) → IsSetup s → length x ≡ length s.mesh.numbers → All (λ tet. HasNodes x tet.nodes) s.mesh.tets
nodes_there s x built e = λ k d l. subst (λ (n : ℕ). All (λ node. node < n) (get_or s.mesh.tets k d).nodes) (sym e) (built.mesh_is_sound.tets k d l).there

pub energy-requires-clause-pose : goal.energy-requires-clause-pose
energy-requires-clause-pose c = record {
  each = c.requires.each;
  upright = subst (All (λ (tet : Tet). pos 0 <ℤ rest_determinant c.args.y.now tet.nodes)) c.items-tets.ensures (c.are_upright.ensures.0 c.if-not-are_upright.false);
  edges = subst (All (λ (tet : Tet). HasShortEdges c.args.y.now tet.nodes)) c.items-tets.ensures (c.are_short.ensures.0 c.if-not-are_short.false);
}

pub are_certified-requires : goal.are_certified-requires
are_certified-requires c =
    let short : All (λ tet. HasShortEdges c.args.y.now tet.nodes) c.args.setup.now.mesh.tets = subst (All (λ (tet : Tet). HasShortEdges c.args.y.now tet.nodes)) c.items-tets.ensures (c.are_short.ensures.0 c.if-not-are_short.false) in
    subst (All (IsShort c.args.x.now c.args.y.now)) (sym c.items-tets.ensures) (λ k d l. record {
      at_start = nodes_there c.args.setup.now c.args.x.now c.requires.ready.built c.requires.ready.pose.each k d l;
      at_end = nodes_there c.args.setup.now c.args.y.now c.requires.ready.built c.requires.each k d l;
      start = c.requires.ready.pose.edges k d l;
      end = short k d l;
    })

pub returns-then-not-are_upright-clause-allowed : goal.returns-then-not-are_upright-clause-allowed
returns-then-not-are_upright-clause-allowed c = (
  λ t. absurd (differ t),
  λ a.
      let pose = allowed_is_pose c.args.setup.now c.args.terms.now.frame c.args.x.now c.args.y.now c.requires.each a in
      sym c.if-not-are_upright.true
      ∙ c.are_upright.ensures.1 (subst (All (λ (tet : Tet). pos 0 <ℤ rest_determinant c.args.y.now tet.nodes)) (sym c.items-tets.ensures) (pose_is_upright c.args.setup.now c.args.y.now pose).upright),
)

pub returns-then-not-are_certified-clause-allowed : goal.returns-then-not-are_certified-clause-allowed
returns-then-not-are_certified-clause-allowed c = (
  λ t. absurd (differ t),
  λ a. sym c.if-not-are_certified.true
      ∙ c.are_certified.ensures.1 (subst (All (HasCertificate c.args.x.now c.args.y.now)) (sym c.items-tets.ensures) (step_tets c.args.setup.now c.args.x.now c.args.y.now a.certified)),
)

pub are_pairs_apart-requires-clause-placed : goal.are_pairs_apart-requires-clause-placed
are_pairs_apart-requires-clause-placed c = placed c.args.setup.now c.args.x.now c.args.y.now c.requires.ready.built c.requires.ready.pose.each c.requires.each

pub returns-then-not-branch-clause-allowed : goal.returns-then-not-branch-clause-allowed
returns-then-not-branch-clause-allowed c = (
  λ t. absurd (differ t),
  λ a. sym c.if-not-branch.true ∙ c.in_ok-are_pairs_apart.ensures.apart.1 (step_pairs c.args.setup.now c.args.x.now c.args.y.now a.certified),
)

pub returns-then-not-branch-clause-tally : goal.returns-then-not-branch-clause-tally
returns-then-not-branch-clause-tally c = inr (
  record { in_box = c.requires.in_box; edges = subst (All (λ (tet : Tet). HasShortEdges c.args.y.now tet.nodes)) c.items-tets.ensures (c.are_short.ensures.0 c.if-not-are_short.false) },
  c.are_pairs_apart.ensures.tally,
)

pub returns-clause-allowed : goal.returns-clause-allowed
returns-clause-allowed c =
    let fits : FitsSigned w128 c.in_ok-lower.lower = search rules in (
      λ t. record {
        in_reach = record {
          in_box = c.requires.in_box;
          edges = subst (All (λ (tet : Tet). HasShortEdges c.args.y.now tet.nodes)) c.items-tets.ensures (c.are_short.ensures.0 c.if-not-are_short.false);
        };
        certified =
            certified_step c.args.setup.now c.args.x.now c.args.y.now
            (subst (All (HasCertificate c.args.x.now c.args.y.now)) c.items-tets.ensures (c.are_certified.ensures.0 c.if-not-are_certified.false))
            (c.in_ok-are_pairs_apart.ensures.apart.0 c.if-not-branch.false);
        lower = below c.args.upper c.in_ok-lower.lower _ _ c.ranges.upper fits c.requires.upper c.in_ok-lower.ensures c.if-upper-lower.false;
      },
      λ a. refl,
    )

pub returns-clause-tally : goal.returns-clause-tally
returns-clause-tally c = inr (
  record { in_box = c.requires.in_box; edges = subst (All (λ (tet : Tet). HasShortEdges c.args.y.now tet.nodes)) c.items-tets.ensures (c.are_short.ensures.0 c.if-not-are_short.false) },
  c.are_pairs_apart.ensures.tally,
)
