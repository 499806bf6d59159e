-- Directions of a matrix and a gradient, as they are stored, are those at the places.
use Rattle.std.proofs.Common.{◌≡◌, ◌∙◌, ℕ, ℤ, List, length, ap, subst}
use Rattle.std.specs.Prelude.{IfOk, IfNone, Ok, Err, Some, None, Option, Result}
use Rattle.std.proofs.lemmas.List.FromFn.{length-map-range_with_len}
use Rattle.block_rows.specs.Stored.{Entry, nodes_of, table_of}
use Rattle.block_rows.specs.Tables.{Table}
use Rattle.space3.specs.declared.vectors.V3.{V3}
use Rattle.surface_mesh.specs.declared.setup.Setup.{Setup}
use Rattle.potential_sum.specs.Matrix.{matrix}
use Rattle.potential_sum.specs.Potential.{gradient}
use Rattle.potential_sum.specs.Terms.{FrameTerms}
use Rattle.sparse_cg.specs.Directions.{IsNewton}
use Rattle.sparse_cg.specs.Jacobi.{jacobi}
use Rattle.sparse_cg.specs.Jacobi.{jacobi_at as jacobi_of}
use Rattle.line_search.specs.declared.step.Step.{Step}
use Rattle.frame_driver.specs.Directions.{IsNewtonAt, jacobi_at}
use Rattle.frame_driver.specs.Frames.{IsStepAt, OfNewton}
use Rattle.frame_driver.specs.Calls.Systems.{AreRowsAt, AreSlopesAt, IsNewtonStep}

module _ (setup : Setup) (terms : FrameTerms) (x : List V3) where
  module _ (rows : List (List Entry)) (slopes : List ℤ) (are_rows : AreRowsAt setup terms x rows) (are_slopes : AreSlopesAt setup terms x slopes) where
    pub newton_is : (direction : List V3) → IsNewton (nodes_of rows) (table_of rows) slopes direction → IsNewtonAt setup terms x direction
    newton_is direction h =
        subst (λ (n : ℕ). IsNewton n (matrix setup terms x) (gradient setup terms x) direction) are_rows.nodes
        (subst (λ (t : Table). IsNewton (nodes_of rows) t (gradient setup terms x) direction) are_rows.table
        (subst (λ (s : List ℤ). IsNewton (nodes_of rows) (table_of rows) s direction) are_slopes.are h))

    pub jacobi_is : (direction : List V3) → direction ≡ jacobi (nodes_of rows) (table_of rows) slopes → direction ≡ jacobi_at setup terms x
    jacobi_is direction is = is ∙ (λ t. jacobi (are_rows.nodes t) (are_rows.table t) (are_slopes.are t))

    -- one vector for each node
    pub jacobi_each : (direction : List V3) → direction ≡ jacobi (nodes_of rows) (table_of rows) slopes → length direction ≡ length setup.mesh.numbers
    jacobi_each direction is = ap (λ (d : List V3). length d) is ∙ length-map-range_with_len (jacobi_of (table_of rows) slopes) 0 (nodes_of rows) ∙ are_rows.nodes

  pub newton_step_is : (step : Step) → IsNewtonStep setup terms x step → IsStepAt setup terms x step
  newton_step_is step h = OfNewton h.direction h.is_newton h.first

-- where there is none, what follows from the one follows from the other
pub none_weaker : {X E : Type 0} (P Q : Type 0) → (P → Q) → (r : Result (Option X) E) → IfOk r (λ found. IfNone found P) → IfOk r (λ found. IfNone found Q)
none_weaker P Q f (Ok None) h = f h
none_weaker P Q f (Ok (Some found)) h = tt
none_weaker P Q f (Err e) h = tt
