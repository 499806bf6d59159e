-- How a tetrahedron is strained. Its deformation gradient is F = Ds A / R, where Ds has its edges as columns, R is the
-- determinant of its edges at rest and A their adjugate; J = det F is its volume over that at rest.
use Rattle.std.specs.Prelude.{ℤ, unsigned_abs}
use Rattle.fixed_log.specs.Logarithm.{ln_ratio_of}
use Rattle.vec_q.specs.Matrices.{M3, determinant_of, product_of, sum_of_squares, transposed}
use Rattle.neo_hooke.specs.Rest.{RestShape}

-- S: the sum of the squares of all entries of Ds A, which is R^2 tr F'F
abbrev pub squared_strain : RestShape → (edges : M3) → ℤ
squared_strain rest edges = sum_of_squares (product_of edges rest.adj)

-- L: ln J, with 24 fraction bits
abbrev pub log_volume : RestShape → (edges : M3) → ℤ
log_volume rest edges = ln_ratio_of (unsigned_abs (determinant_of edges)) (unsigned_abs rest.r)

-- Ds C with C = A A': the derivative of S / 2 by the edges
abbrev pub strain_gradient : RestShape → (edges : M3) → M3
strain_gradient rest edges = product_of edges (product_of rest.adj (transposed rest.adj))
