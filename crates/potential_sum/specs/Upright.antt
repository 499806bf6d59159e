-- Places at which the potential has room.
use Rattle.std.specs.Prelude.{◌≡◌, ℕ, pos, ◌<ℤ◌, List, length, All, IsTrue}
use Rattle.space3.specs.declared.vectors.V3.{V3}
use Rattle.space3.specs.Mesh.{rest_determinant}
use Rattle.surface_mesh.specs.declared.setup.Setup.{Setup}
use Rattle.surface_mesh.specs.Edges.{has_edges_within}
use Rattle.volume_cert.specs.declared.edges.TheConstants.{LONGEST_EDGE}

-- no component of an edge of a tetrahedron is above the greatest in motion
abbrev pub HasShortEdges : List V3 → List ℕ → Type 0
HasShortEdges places nodes = IsTrue (has_edges_within LONGEST_EDGE places nodes)

-- one place per node, all volumes positive, and no edge too long
pub record IsUpright (setup : Setup) (places : List V3) : Type 0 where
  pub each : length places ≡ length setup.mesh.numbers
  pub upright : All (λ tet. pos 0 <ℤ rest_determinant places tet.nodes) setup.mesh.tets
  pub edges : All (λ tet. HasShortEdges places tet.nodes) setup.mesh.tets
