-- What comes of a mesh.
use Rattle.std.specs.Prelude.{◌≤◌, length, Result, Ok, Err}
use Rattle.space3.specs.declared.mesh.Mesh.{Mesh}
use Rattle.boundary.specs.declared.limits.TheConstants.{TRIANGLE_LIMIT}
use Rattle.boundary.specs.declared.refusal.SurfErr.{SurfErr}
use Rattle.boundary.specs.declared.refusal.SurfErr.TheVariants.{Memory, FaceThrice, FaceSame, TooManyTriangles}
use Rattle.boundary.specs.Refusals.{AreSame, AreThrice, AreTooMany, IsConforming}
use Rattle.boundary.specs.Surface.{IsSurface, SurfaceLists}

-- the surface of a mesh that is conforming and whose triangles aren't too many
pub record IsUsableSurface (mesh : Mesh) (surface : SurfaceLists) : Type 0 where
  pub conforming : IsConforming mesh
  pub is_surface : IsSurface mesh surface
  pub few : length surface.triangles ≤ TRIANGLE_LIMIT

-- what comes of a mesh: its surface, or why it has none; want of memory says nothing of a mesh
abbrev pub IsSurfaceOutcome : Mesh → Result SurfaceLists SurfErr → Type 0
IsSurfaceOutcome mesh (Ok surface) = IsUsableSurface mesh surface
IsSurfaceOutcome mesh (Err Memory) = ⊥
IsSurfaceOutcome mesh (Err (FaceThrice tets)) = AreThrice mesh tets
IsSurfaceOutcome mesh (Err (FaceSame tets)) = AreSame mesh tets
IsSurfaceOutcome mesh (Err (TooManyTriangles count)) = AreTooMany mesh count
