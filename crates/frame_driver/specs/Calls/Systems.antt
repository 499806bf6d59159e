-- The matrix and the gradient at some places, as they are stored, and the step of a direction that is made of them.
use Rattle.std.specs.Prelude.{◌≡◌, ◌*◌, ◌^◌, ℤ, List, length, All}
use Rattle.block_rows.specs.Stored.{Entry, nodes_of, table_of}
use Rattle.space3.specs.declared.vectors.V3.{V3}
use Rattle.space3.specs.Vectors.{AtMost}
use Rattle.surface_mesh.specs.declared.setup.Setup.{Setup}
use Rattle.potential_sum.specs.Matrix.{matrix}
use Rattle.potential_sum.specs.Potential.{gradient}
use Rattle.potential_sum.specs.Terms.{FrameTerms}
use Rattle.line_search.specs.declared.step.DirKind.TheVariants as kinds
use Rattle.line_search.specs.declared.step.Step.{Step}
use Rattle.line_search.specs.Steps.{IsFirstStep}
use Rattle.frame_driver.specs.Directions.{IsNewtonAt}

-- these numbers are the gradient at the places x
pub record AreSlopesAt (setup : Setup) (terms : FrameTerms) (x : List V3) (slopes : List ℤ) : Type 0 where
  pub are : slopes ≡ gradient setup terms x
  pub each : length slopes ≡ 3 * length setup.mesh.numbers
  pub small : All (AtMost (2 ^ 124)) slopes

-- these rows are the matrix at the places x
pub record AreRowsAt (setup : Setup) (terms : FrameTerms) (x : List V3) (rows : List (List Entry)) : Type 0 where
  pub nodes : nodes_of rows ≡ length setup.mesh.numbers
  pub table : table_of rows ≡ matrix setup terms x

-- the first step of Newton's direction at the places x
pub record IsNewtonStep (setup : Setup) (terms : FrameTerms) (x : List V3) (step : Step) : Type 0 where
  pub direction : List V3
  pub is_newton : IsNewtonAt setup terms x direction
  pub first : IsFirstStep setup terms x kinds.Newton direction step
