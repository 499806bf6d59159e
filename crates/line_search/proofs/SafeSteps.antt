-- What an allowed step keeps.
use Rattle.std.proofs.Common.{◌≡◌, ℕ, pos, ◌<ℤ◌, List, length, subst, sym}
use Rattle.list_laws.proofs.Elements.{All-map_back}
use Rattle.space3.specs.declared.lists.Tet.{Tet}
use Rattle.space3.specs.Mesh.{rest_determinant}
use Rattle.space3.specs.declared.vectors.V3.{V3}
use Rattle.safe_motion.proofs.Certified.{certified_safe}
use Rattle.safe_motion.proofs.Ends.{safe_end}
use Rattle.surface_mesh.specs.declared.setup.Setup.{Setup}
use Rattle.surface_mesh.specs.Safety.{IsSafeStep, corner_nodes, depth_of, part_pairs}
use Rattle.potential_sum.specs.Terms.{FrameTerms}
use Rattle.potential_sum.specs.Potential.{potential}
use Rattle.potential_sum.specs.Upright.{IsUpright}
use Rattle.line_search.specs.declared.halvings.Halving.{Halving}
use Rattle.line_search.specs.declared.step.DirKind.{DirKind}
use Rattle.line_search.specs.declared.step.Step.{Step}
use Rattle.line_search.specs.Accepted.{IsAllowed}
use Rattle.line_search.specs.Calls.Halvings.{IsFirstHalving}
use Rattle.line_search.specs.Poses.{IsPose}
use Rattle.line_search.specs.Steps.{IsFirstStep}

-- an allowed step is safe
pub allowed_is_safe : (s : Setup) (terms : FrameTerms) (x y : List V3) → IsAllowed s terms x y → IsSafeStep s x y
allowed_is_safe s terms x y a = certified_safe (depth_of s) (part_pairs s) (corner_nodes s) x y a.certified

-- and its end is a pose
pub allowed_is_pose : (s : Setup) (terms : FrameTerms) (x y : List V3) → length y ≡ length s.mesh.numbers → IsAllowed s terms x y → IsPose s y
allowed_is_pose s terms x y e a = record {
  each = e;
  safe = safe_end (part_pairs s) (corner_nodes s) x y (allowed_is_safe s terms x y a);
  edges = a.in_reach.edges;
}

-- the step of the least accepted halving is safe
pub first_step_is_safe : (s : Setup) (terms : FrameTerms) (x : List V3) (kind : DirKind) (direction : List V3) (step : Step)
    → IsFirstStep s terms x kind direction step → IsSafeStep s x step.places
first_step_is_safe s terms x kind direction step h =
    allowed_is_safe s terms x step.places (subst (IsAllowed s terms x) (sym h.places) h.first.accepted.allowed)

-- and lowers the potential
pub first_step_goes_down : (s : Setup) (terms : FrameTerms) (x : List V3) (kind : DirKind) (direction : List V3) (step : Step)
    → IsFirstStep s terms x kind direction step → potential s terms step.places <ℤ potential s terms x
first_step_goes_down s terms x kind direction step h =
    (subst (IsAllowed s terms x) (sym h.places) h.first.accepted.allowed).lower

-- the first accepted halving is allowed
pub first_halving_is_allowed : (s : Setup) (terms : FrameTerms) (x direction : List V3) (halving : Halving) → IsFirstHalving s terms x direction halving → IsAllowed s terms x halving.places
first_halving_is_allowed s terms x direction halving h = subst (IsAllowed s terms x) (sym h.places) h.first.accepted.allowed

-- at a pose the potential has room
pub pose_is_upright : (s : Setup) (x : List V3) → IsPose s x → IsUpright s x
pose_is_upright s x pose = record {
  each = pose.each;
  upright = All-map_back (λ (nodes : List ℕ). pos 0 <ℤ rest_determinant x nodes) (λ (tet : Tet). tet.nodes) s.mesh.tets pose.safe.upright;
  edges = pose.edges;
}
