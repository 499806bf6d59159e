-- The corners of a tetrahedron where its nodes stand.
use Rattle.std.specs.Prelude.{ℕ, List, [], ◌∷◌, slice_index}
use Rattle.space3.specs.declared.vectors.V3.{V3}
use Rattle.space3.specs.declared.lists.Tet.{Tet}
use Rattle.space3.specs.Mesh.{HasNodes, place_of}
use Rattle.safe_motion.specs.declared.depth.TheConstants.{DEPTH}
use Rattle.safe_motion.specs.Certificates.{VolumeCertificate}
use Rattle.safe_motion.specs.Safety.{corners}
use Rattle.potential_sum.specs.Upright.{HasShortEdges}

-- the places of the four nodes
abbrev pub corners_at : List V3 → List ℕ → List V3
corners_at places nodes =
    let corner = λ (k : ℕ). place_of places (slice_index nodes k) in
    corner 0 ∷ corner 1 ∷ corner 2 ∷ corner 3 ∷ []

-- each node of the tetrahedron has a place in both lists, and no edge is too long in either
pub record IsShort (x y : List V3) (tet : Tet) : Type 0 where
  pub at_start : HasNodes x tet.nodes
  pub at_end : HasNodes y tet.nodes
  pub start : HasShortEdges x tet.nodes
  pub end : HasShortEdges y tet.nodes

-- the tetrahedron is certified to keep a positive volume on the way from the places x to the places y
pub record HasCertificate (x y : List V3) (tet : Tet) : Type 0 where
  pub certificate : VolumeCertificate DEPTH (corners x y tet.nodes)
