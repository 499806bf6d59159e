-- The directions at some places, by the matrix and the gradient there.
use Rattle.std.specs.Prelude.{List, length}
use Rattle.space3.specs.declared.vectors.V3.{V3}
use Rattle.surface_mesh.specs.declared.setup.Setup.{Setup}
use Rattle.potential_sum.specs.Matrix.{matrix}
use Rattle.potential_sum.specs.Potential.{gradient}
use Rattle.potential_sum.specs.Terms.{FrameTerms}
use Rattle.sparse_cg.specs.Directions.{IsNewton}
use Rattle.sparse_cg.specs.Jacobi.{jacobi}
use Rattle.line_search.specs.Accepted.{HasNoAccepted}

-- Newton's direction, one vector per node; there may be none
abbrev pub IsNewtonAt : Setup → FrameTerms → (x direction : List V3) → Type 0
IsNewtonAt setup terms x direction =
    IsNewton (length setup.mesh.numbers) (matrix setup terms x) (gradient setup terms x) direction

-- Jacobi's direction, one vector per node
abbrev pub jacobi_at : Setup → FrameTerms → (x : List V3) → List V3
jacobi_at setup terms x = jacobi (length setup.mesh.numbers) (matrix setup terms x) (gradient setup terms x)

-- no halving of Newton's direction is accepted, if there is one
abbrev pub HasNoNewtonStep : Setup → FrameTerms → (x : List V3) → Type 0
HasNoNewtonStep setup terms x =
    (direction : List V3) → IsNewtonAt setup terms x direction → HasNoAccepted setup terms x direction
