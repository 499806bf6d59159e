-- What bodies must be at the start: no number of a step leaves its width, and no two parts meet.
use Rattle.std.specs.Prelude.{◌≤ℤ◌, pos, All, IsTrue}
use Rattle.whole_laws.specs.Ranges.{IsFrom}
use Rattle.surface_mesh.specs.declared.setup.Setup.{Setup}
use Rattle.surface_mesh.specs.declared.sturdy.TheConstants.{LEAST_REST, LONGEST_REST, MOST_MASS}
use Rattle.surface_mesh.specs.Edges.{has_edges_within}
use Rattle.surface_mesh.specs.Safety.{HaveMet, part_pairs}

-- no tetrahedron is flat, turned over, thin or long, and no node is too heavy
pub record IsSturdy (setup : Setup) : Type 0 where
  pub rest : All (λ rest. LEAST_REST ≤ℤ rest) setup.rest
  pub edges : All (λ tet. IsTrue (has_edges_within LONGEST_REST setup.mesh.places tet.nodes)) setup.mesh.tets
  pub mass : All (IsFrom (pos 0) MOST_MASS) setup.mass

-- bodies that are fit to start: sturdy, and no pair of parts that must not meet does where the mesh stands
pub record IsFit (setup : Setup) : Type 0 where
  pub sturdy : IsSturdy setup
  pub apart : All (λ pair. ¬ HaveMet setup.mesh.places pair) (part_pairs setup)
