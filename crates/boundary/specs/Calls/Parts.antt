-- The parts of a surface by their nodes.
use Rattle.std.specs.Prelude.{ℕ, ◌≤◌, List, length, All}
use Rattle.std.specs.List.{Contains}
use Rattle.boundary.specs.Surface.{SurfaceLists}

-- one to three vertices of a surface
pub record IsPart (s : SurfaceLists) (nodes : List ℕ) : Type 0 where
  pub some : 1 ≤ length nodes
  pub few : length nodes ≤ 3
  pub vertices : All (Contains s.vertices) nodes
