-- The blocks of each two nodes, from what they share.
use Rattle.std.proofs.Common.{◌≡◌, ◌∙◌, ℕ, ℤ, List, [], ◌∷◌, map, ap}
use Rattle.space3.specs.declared.vectors.V3.{V3}
use Rattle.vec_q.specs.Matrices.{M3, cofactors, determinant_of, transposed}
use Rattle.vec_q.specs.Rows.{rows_of}
use Rattle.neo_hooke.specs.Block.{at_node, block_at, log_slopes, slopes_of}
use Rattle.neo_hooke.specs.FourNodes.{block_between, blocks_of, elastic_blocks}
use Rattle.neo_hooke.specs.Rest.{RestShape, edge_matrix}

pub blocks-are : (rest : RestShape) (mu lambda : ℤ) (x : List V3) (volume : ℤ) (across rows : M3) (row slope : ℕ → V3) → volume ≡ determinant_of (edge_matrix x) → across ≡ cofactors (edge_matrix x) → rows ≡ transposed rest.adj →
    ((i : ℕ) → row i ≡ at_node rows i) → ((i : ℕ) → slope i ≡ slopes_of volume (at_node across i)) → map (blocks_of rest.r mu lambda row slope) (0 ∷ 1 ∷ 2 ∷ 3 ∷ []) ≡ elastic_blocks rest mu lambda x
unfolding block_at
blocks-are rest mu lambda x volume across rows row slope v a m of_row of_slope =
    λ t. map (λ i. map (λ j. rows_of (block_between rest.r mu lambda (row_is i t) (row_is j t) (slope_is i t) (slope_is j t))) (0 ∷ 1 ∷ 2 ∷ 3 ∷ [])) (0 ∷ 1 ∷ 2 ∷ 3 ∷ [])
  where
    row_is : (i : ℕ) → row i ≡ at_node (transposed rest.adj) i
    row_is i = of_row i ∙ ap (λ (n : M3). at_node n i) m

    slope_is : (i : ℕ) → slope i ≡ log_slopes (edge_matrix x) i
    slope_is i = of_slope i ∙ (λ t. slopes_of (v t) (at_node (a t) i))
