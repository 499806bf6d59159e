-- What can be decided of a step: whether it is accepted, and so whether places have a step or are at rest.
use Rattle.std.proofs.Common.{◌≡◌, ℕ, ◌+◌, ◌^◌, ℤ, pos, ◌+ℤ◌, ◌≤ℤ◌, ◌<ℤ◌, List, ◌⊎◌, inl, inr, refl, unsigned_abs, length}
use Rattle.std.proofs.Math.Decide.{dec_le}
use Rattle.std.proofs.Math.IntN.{ℤ_discrete}
use Rattle.space3.specs.declared.places.TheConstants.{BOX_LIMIT}
use Rattle.space3.specs.declared.ways.TheConstants.{HALVING_LIMIT}
use Rattle.space3.specs.declared.vectors.V3.{V3}
use Rattle.space3.specs.Vectors.{AtMost, Within, vector, origin, determinant}
use Rattle.space3.specs.Box.{IsInTheBox}
use Rattle.space3.specs.Moved.{halved, moved_by}
use Rattle.safe_motion.specs.declared.motion.Corners.{Corners}
use Rattle.safe_motion.specs.declared.motion.Edges.{Edges}
use Rattle.safe_motion.specs.declared.motion.Move.{Move}
use Rattle.safe_motion.specs.Certificates.{ArePositive, IsServed, PairCertificate, StaysPositive, VolumeCertificate, edges_at}
use Rattle.safe_motion.specs.Safety.{IsCertified, PartPair, corners, node_moves}
use Rattle.plane_cut.specs.Planes.{HasPlane}
use Rattle.plane_cut.proofs.Exclusion.{excludes}
use Rattle.plane_cut.proofs.Weights.{alternative}
use Rattle.pair_cert.specs.Calls.Moves.{all_ends, moves_within}
use Rattle.pair_cert.proofs.Separations.{served_plane}
use Rattle.surface_mesh.specs.declared.setup.Setup.{Setup}
use Rattle.surface_mesh.specs.Safety.{corner_nodes, depth_of, part_pairs}
use Rattle.surface_mesh.specs.Edges.{has_edges_within}
use Rattle.potential_sum.specs.Terms.{FrameTerms}
use Rattle.potential_sum.specs.Potential.{potential, gradient}
use Rattle.potential_sum.specs.Matrix.{matrix}
use Rattle.line_search.specs.declared.step.Step.{Step}
use Rattle.volume_cert.specs.declared.edges.TheConstants.{LONGEST_EDGE}
use Rattle.line_search.specs.Accepted.{AreInReach, IsAllowed, IsAccepted, IsFirstAccepted, HasNoAccepted}
use Rattle.potential_sum.specs.Upright.{HasShortEdges}
use Rattle.sparse_cg.proofs.Decided.{newton_or_none}
use Rattle.line_search.specs.declared.step.DirKind.{DirKind}
use Rattle.line_search.specs.declared.step.DirKind.TheVariants.{Jacobi, Newton}
use Rattle.line_search.specs.Steps.{IsFirstStep}
use Rattle.frame_driver.specs.Directions.{HasNoNewtonStep, IsNewtonAt, jacobi_at}
use Rattle.frame_driver.specs.Frames.{IsAtRest, HasStep, HasNoStep}
use Rattle.frame_driver.proofs.StepsAt.{jacobi_has, newton_has, no_newton_step}
use Rattle.list_laws.proofs.Decisions.{dec_along, dec_not, dec_two, dec_three, dec_four, dec_IsTrue, dec_lt_ℤ, dec_le_ℤ, dec_All, dec_Any, dec_below, least_or_none}

-- ---- vectors
dec_AtMost : (b : ℕ) (a : ℤ) → Dec (AtMost b a)
dec_AtMost b a = dec_along (dec_le (unsigned_abs a) b) (λ h. record { bound = h }) (λ h. h.bound)

pub dec_Within : (b : ℕ) (a : V3) → Dec (Within b a)
dec_Within b a =
    dec_along (dec_three (dec_AtMost b a.x) (dec_AtMost b a.y) (dec_AtMost b a.z))
    (λ h. record { x = h.0; y = h.1; z = h.2 }) (λ h. (h.x, h.y, h.z))

dec_same : (a b : V3) → Dec (a ≡ b)
dec_same a b =
    dec_along (dec_three (ℤ_discrete a.x b.x) (ℤ_discrete a.y b.y) (ℤ_discrete a.z b.z))
    (λ e. λ i. vector (e.0 i) (e.1 i) (e.2 i)) (λ e. (λ i. (e i).x, λ i. (e i).y, λ i. (e i).z))

-- ---- certificates
dec_above : (a : ℤ) → Dec (pos 0 <ℤ a)
dec_above a = dec_lt_ℤ (pos 0) a

dec_ArePositive : (s t : Edges) → Dec (ArePositive s t)
dec_ArePositive s t =
    dec_along
    (dec_four
    (dec_above (determinant s.u s.v s.w))
    (dec_above (determinant t.u s.v s.w +ℤ determinant s.u t.v s.w +ℤ determinant s.u s.v t.w))
    (dec_above (determinant t.u t.v s.w +ℤ determinant t.u s.v t.w +ℤ determinant s.u t.v t.w))
    (dec_above (determinant t.u t.v t.w)))
    (λ h. record { first = h.0; second = h.1; third = h.2; fourth = h.3 }) (λ h. (h.first, h.second, h.third, h.fourth))

pub dec_VolumeCertificate : (depth : ℕ) (t : Corners) → Dec (VolumeCertificate depth t)
dec_VolumeCertificate depth t =
    dec_below (λ j. StaysPositive t j (2 ^ depth))
    (λ j. dec_ArePositive (edges_at j (2 ^ depth) t) (edges_at (j + 1) (2 ^ depth) t)) (2 ^ depth)

dec_HasPlane : (rows : List V3) → Dec (HasPlane rows)
dec_HasPlane rows = elim (alternative rows) [ inl plane ↦ yes plane | inr weights ↦ no (λ plane. excludes rows plane weights) ]

pub dec_PairCertificate : (depth : ℕ) (xs ys : List Move) → Dec (PairCertificate depth xs ys)
dec_PairCertificate depth xs ys =
    dec_below (λ j. IsServed xs ys j (2 ^ depth))
    (λ j. dec_along (dec_HasPlane (all_ends (moves_within xs ys j (2 ^ depth)))) (served_plane xs ys j (2 ^ depth)).1 (served_plane xs ys j (2 ^ depth)).0)
    (2 ^ depth)

dec_IsCertified : (depth : ℕ) (pairs : List PartPair) (tets : List (List ℕ)) (x y : List V3) → Dec (IsCertified depth pairs tets x y)
dec_IsCertified depth pairs tets x y =
    dec_along
    (dec_two
    (dec_All (λ pair. PairCertificate depth (node_moves x y pair.left) (node_moves x y pair.right)) (λ pair. dec_PairCertificate depth (node_moves x y pair.left) (node_moves x y pair.right)) pairs)
    (dec_All (λ tet. VolumeCertificate depth (corners x y tet)) (λ tet. dec_VolumeCertificate depth (corners x y tet)) tets))
    (λ h. record { pairs_apart = h.0; tets_upright = h.1 }) (λ h. (h.pairs_apart, h.tets_upright))

-- ---- steps
dec_AreInReach : (setup : Setup) (y : List V3) → Dec (AreInReach setup y)
dec_AreInReach setup y =
    dec_along
    (dec_two
    (dec_All IsInTheBox (dec_Within BOX_LIMIT) y)
    (dec_All (λ tet. HasShortEdges y tet.nodes) (λ tet. dec_IsTrue (has_edges_within LONGEST_EDGE y tet.nodes)) setup.mesh.tets))
    (λ h. record { in_box = h.0; edges = h.1 }) (λ h. (h.in_box, h.edges))

pub dec_IsAllowed : (setup : Setup) (terms : FrameTerms) (x y : List V3) → Dec (IsAllowed setup terms x y)
dec_IsAllowed setup terms x y =
    dec_along
    (dec_three
    (dec_AreInReach setup y)
    (dec_IsCertified (depth_of setup) (part_pairs setup) (corner_nodes setup) x y)
    (dec_lt_ℤ (potential setup terms y) (potential setup terms x)))
    (λ h. record { in_reach = h.0; certified = h.1; lower = h.2 }) (λ h. (h.in_reach, h.certified, h.lower))

pub dec_IsAccepted : (setup : Setup) (terms : FrameTerms) (x direction : List V3) (half : ℕ) → Dec (IsAccepted setup terms x direction half)
dec_IsAccepted setup terms x direction half =
    dec_along
    (dec_two
    (dec_Any (λ d. ¬ (halved half d ≡ origin)) (λ d. dec_not (dec_same (halved half d) origin)) direction)
    (dec_IsAllowed setup terms x (moved_by x direction half)))
    (λ h. record { moves = h.0; allowed = h.1 }) (λ h. (h.moves, h.allowed))

-- some halving is the least that is accepted, or none is accepted
pub first_or_none : (setup : Setup) (terms : FrameTerms) (x direction : List V3) → ((half : ℕ) × IsFirstAccepted setup terms x direction half) ⊎ HasNoAccepted setup terms x direction
first_or_none setup terms x direction =
    elim (least_or_none (IsAccepted setup terms x direction) (dec_IsAccepted setup terms x direction) HALVING_LIMIT) [
      | inl found ↦ inl (found.0, record { few = found.1; accepted = found.2.holds; least = found.2.least })
      | inr none ↦ inr none
    ]

-- the step of a halving of a direction
abbrev step_of : Setup → FrameTerms → (x : List V3) → DirKind → (direction : List V3) → ℕ → Step
step_of setup terms x kind direction half = record {
  kind = kind;
  half = half;
  direction = direction;
  places = moved_by x direction half;
  lower = potential setup terms (moved_by x direction half);
  upper = potential setup terms x;
}

step_is_first : (setup : Setup) (terms : FrameTerms) (x : List V3) (kind : DirKind) (direction : List V3) (half : ℕ)
    → IsFirstAccepted setup terms x direction half → IsFirstStep setup terms x kind direction (step_of setup terms x kind direction half)
step_is_first setup terms x kind direction half h =
    record { first = h; kind = refl; direction = refl; places = refl; lower = refl; upper = refl }

-- Jacobi's direction has a step, or there is none
jacobi_or_none : (setup : Setup) (terms : FrameTerms) (x : List V3) → HasNoNewtonStep setup terms x → HasStep setup terms x ⊎ HasNoStep setup terms x
jacobi_or_none setup terms x before =
    let direction = jacobi_at setup terms x in
    elim (first_or_none setup terms x direction) [
      | inl found ↦ inl (jacobi_has setup terms x (step_of setup terms x Jacobi direction found.0) before (step_is_first setup terms x Jacobi direction found.0 found.1))
      | inr none ↦ inr (before, none)
    ]

-- this is Newton's direction: it has a step, or no halving of Newton's direction is accepted
newton_step_or_none : (setup : Setup) (terms : FrameTerms) (x direction : List V3) → IsNewtonAt setup terms x direction → HasStep setup terms x ⊎ HasNoNewtonStep setup terms x
newton_step_or_none setup terms x direction is_newton =
    elim (first_or_none setup terms x direction) [
      | inl found ↦ inl (newton_has setup terms x direction (step_of setup terms x Newton direction found.0) is_newton (step_is_first setup terms x Newton direction found.0 found.1))
      | inr none ↦ inr (no_newton_step setup terms x direction is_newton none)
    ]

-- there is a step, or there is none
pub step_or_none : (setup : Setup) (terms : FrameTerms) (x : List V3) → HasStep setup terms x ⊎ HasNoStep setup terms x
step_or_none setup terms x =
    elim (newton_or_none (length setup.mesh.numbers) (matrix setup terms x) (gradient setup terms x)) [
      | inr without ↦ jacobi_or_none setup terms x (λ direction h. absurd (without direction h))
      | inl found ↦ elim (newton_step_or_none setup terms x found.0 found.1) [
        | inl step ↦ inl step
        | inr none ↦ jacobi_or_none setup terms x none
      ]
    ]

pub dec_IsAtRest : (setup : Setup) (tol : ℤ) (terms : FrameTerms) (x : List V3) → Dec (IsAtRest setup tol terms x)
dec_IsAtRest setup tol terms x = dec_All (λ slope. pos (unsigned_abs slope) ≤ℤ tol) (λ slope. dec_le_ℤ (pos (unsigned_abs slope)) tol) (gradient setup terms x)
