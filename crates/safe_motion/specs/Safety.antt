-- What it means that a step is safe.
use Rattle.std.specs.Prelude.{ℕ, pos, ◌<ℤ◌, List, map, All, slice_index_or}
use Rattle.space3.specs.declared.vectors.V3.{V3}
use Rattle.space3.specs.Mesh.{place_of, rest_determinant}
use Rattle.safe_motion.specs.declared.motion.Move.{Move}
use Rattle.safe_motion.specs.declared.motion.Corners.{Corners}
use Rattle.safe_motion.specs.Moments.{IsFraction}
use Rattle.safe_motion.specs.Meeting.{Meets, MeetAt}
use Rattle.safe_motion.specs.Certificates.{PairCertificate, VolumeCertificate, volume_at}

-- the nodes of two parts that must not meet, as positions in the list of places
pub record PartPair : Type 0 where
  pub left : List ℕ
  pub right : List ℕ

-- node i moves from its place in x0 to its place in x1
abbrev pub node_move : List V3 → List V3 → ℕ → Move
node_move x0 x1 i = record { start = place_of x0 i; end = place_of x1 i }

abbrev pub node_moves : List V3 → List V3 → List ℕ → List Move
node_moves x0 x1 nodes = map (node_move x0 x1) nodes

-- a tetrahedron of these four nodes
abbrev pub corners : List V3 → List V3 → List ℕ → Corners
corners x0 x1 nodes =
    let corner = λ (k : ℕ). node_move x0 x1 (slice_index_or nodes k 0) in
    record { first = corner 0; second = corner 1; third = corner 2; fourth = corner 3 }

-- at every fraction of the straight step from x0 to x1 no listed pair meets, and each tetrahedron's volume is
-- positive
pub record SafeMotion (pairs : List PartPair) (tets : List (List ℕ)) (x0 x1 : List V3) : Type 0 where
  pub apart : (p q : ℕ) → IsFraction p q →
      All (λ pair. ¬ MeetAt p q (node_moves x0 x1 pair.left) (node_moves x0 x1 pair.right)) pairs
  pub upright : (p q : ℕ) → IsFraction p q → All (λ tet. pos 0 <ℤ volume_at p q (corners x0 x1 tet)) tets

-- where the nodes stand no listed pair meets, and each tetrahedron's volume is positive
pub record SafePlaces (pairs : List PartPair) (tets : List (List ℕ)) (x : List V3) : Type 0 where
  pub apart : All (λ pair. ¬ Meets (map (place_of x) pair.left) (map (place_of x) pair.right)) pairs
  pub upright : All (λ tet. pos 0 <ℤ rest_determinant x tet) tets

-- each listed pair and each tetrahedron has its certificate
pub record IsCertified (depth : ℕ) (pairs : List PartPair) (tets : List (List ℕ)) (x0 x1 : List V3) : Type 0 where
  pub pairs_apart :
      All (λ pair. PairCertificate depth (node_moves x0 x1 pair.left) (node_moves x0 x1 pair.right)) pairs
  pub tets_upright : All (λ tet. VolumeCertificate depth (corners x0 x1 tet)) tets
