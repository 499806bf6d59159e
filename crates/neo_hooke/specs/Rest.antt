-- A tetrahedron by its edges, and what is kept of it at rest.
use Rattle.std.specs.Prelude.{ℕ, ◌^◌, ◌<◌, ℤ, pos, ◌≤ℤ◌, ◌<ℤ◌, List, unsigned_abs}
use Rattle.whole_laws.specs.Ranges.{IsFrom}
use Rattle.space3.specs.declared.vectors.V3.{V3}
use Rattle.space3.specs.Vectors.{difference}
use Rattle.space3.specs.Mesh.{place_of}
use Rattle.vec_q.specs.Matrices.{M3, columns, adjugate, determinant_of}
use Rattle.vec_q.specs.Rows.{matrix_of}
use Rattle.vec_q.specs.Widths.{AreWithin}
use Rattle.surface_mesh.specs.declared.ranges.TheConstants.{MOST_MODULUS}
use Rattle.surface_mesh.specs.declared.sturdy.TheConstants.{LEAST_REST, LONGEST_REST}
use Rattle.volume_cert.specs.declared.edges.TheConstants.{LONGEST_EDGE}
use Rattle.neo_hooke.specs.declared.rest.RestTet.{RestTet}

-- the matrix whose columns are the edges from the first of four places to the others
abbrev pub edge_matrix : List V3 → M3
edge_matrix x =
    let edge = λ (k : ℕ). difference (place_of x k) (place_of x 0) in
    columns (edge 1) (edge 2) (edge 3)

-- what is kept of a tetrahedron at rest: the determinant of its edges, and their adjugate
pub record RestShape : Type 0 where
  pub r : ℤ
  pub adj : M3

abbrev pub rest_shape : List V3 → RestShape
rest_shape x = record { r = determinant_of (edge_matrix x); adj = adjugate (edge_matrix x) }

-- the same, as numbers of the machine give it
abbrev pub shape_of : RestTet → RestShape
shape_of rest = record { r = rest.r; adj = matrix_of rest.adj }

-- places at which a tetrahedron may rest: neither long nor thin
pub record CanRest (x : List V3) : Type 0 where
  pub edges : AreWithin LONGEST_REST (edge_matrix x)
  pub volume : LEAST_REST ≤ℤ determinant_of (edge_matrix x)

-- what is kept of such places is in these ranges
pub record IsRestShape (rest : RestShape) : Type 0 where
  pub positive : pos 0 <ℤ rest.r
  pub narrow : unsigned_abs rest.r < 2 ^ 45
  pub adj : AreWithin (2 ^ 29) rest.adj

-- places at which a tetrahedron may stand: no long edge, and a positive volume
pub record CanStand (x : List V3) : Type 0 where
  pub edges : AreWithin LONGEST_EDGE (edge_matrix x)
  pub volume : pos 0 <ℤ determinant_of (edge_matrix x)

-- a modulus of elasticity, as a scene may give it
abbrev pub IsModulus : ℤ → Type 0
IsModulus modulus = IsFrom (pos 0) MOST_MODULUS modulus
