-- Why a mesh has no surface.
use Rattle.std.specs.Prelude.{ℕ, ◌≡◌, ◌≤◌, ◌<◌, List, [], ◌∷◌, length, take, IsTrue}
use Rattle.std.specs.declared.cmp.Ordering.TheVariants.{Less}
use Rattle.space3.specs.declared.mesh.Mesh.{Mesh}
use Rattle.boundary.specs.declared.faces.Face.{Face}
use Rattle.boundary.specs.declared.limits.TheConstants.{TRIANGLE_LIMIT}
use Rattle.boundary.specs.declared.refusal.SurfErr.{SurfErr}
use Rattle.boundary.specs.declared.refusal.SurfErr.TheVariants.{Memory, FaceThrice, FaceSame, TooManyTriangles}
use Rattle.boundary.specs.Faces.{faces_at, have_same_turn, node_order, owners_of}
use Rattle.boundary.specs.SortedLists.{IsSortedListOf}
use Rattle.boundary.specs.Surface.{IsBoundaryFace}

-- a face of three tetrahedra or more
pub record IsThrice (mesh : Mesh) (corners : List ℕ) : Type 0 where
  pub thrice : 3 ≤ length (owners_of mesh corners)

-- a face of two tetrahedra in the same turn, so that both lie on one side of it
pub record IsSame (mesh : Mesh) (corners : List ℕ) : Type 0 where
  pub first : Face
  pub second : Face
  pub two : faces_at mesh corners ≡ first ∷ second ∷ []
  pub same : IsTrue (have_same_turn first.turn second.turn)

-- it has the property, and none before it has
pub record IsLeast (P : List ℕ → Type 0) (corners : List ℕ) : Type 0 where
  pub holds : P corners
  pub least : (others : List ℕ) → P others → ¬ (node_order others corners ≡ Less)

-- the first three tetrahedra of the least face that three have
pub record AreThrice (mesh : Mesh) (tets : List ℕ) : Type 0 where
  pub corners : List ℕ
  pub least : IsLeast (IsThrice mesh) corners
  pub first_three : tets ≡ take 3 (owners_of mesh corners)

-- no face has three tetrahedra, and these are the two of the least face that two have in the same turn
pub record AreSame (mesh : Mesh) (tets : List ℕ) : Type 0 where
  pub corners : List ℕ
  pub none_thrice : (others : List ℕ) → ¬ IsThrice mesh others
  pub least : IsLeast (IsSame mesh) corners
  pub both : tets ≡ owners_of mesh corners

-- the mesh is conforming: each face has one tetrahedron, or two on different sides
pub record IsConforming (mesh : Mesh) : Type 0 where
  pub none_thrice : (corners : List ℕ) → ¬ IsThrice mesh corners
  pub none_same : (corners : List ℕ) → ¬ IsSame mesh corners

-- so many faces have one tetrahedron, which is too many
pub record AreTooMany (mesh : Mesh) (count : ℕ) : Type 0 where
  pub conforming : IsConforming mesh
  pub triangles : List (List ℕ)
  pub single : IsSortedListOf node_order (IsBoundaryFace mesh) triangles
  pub counted : count ≡ length triangles
  pub many : TRIANGLE_LIMIT < count

-- what each refusal says of the mesh
abbrev pub Refuses : Mesh → SurfErr → Type 0
Refuses mesh Memory = Unit {0}
Refuses mesh (FaceThrice tets) = AreThrice mesh tets
Refuses mesh (FaceSame tets) = AreSame mesh tets
Refuses mesh (TooManyTriangles count) = AreTooMany mesh count
