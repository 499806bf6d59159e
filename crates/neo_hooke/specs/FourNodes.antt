-- A vector for each of the four nodes, and the blocks of each two.
use Rattle.std.specs.Prelude.{ℕ, zero, suc, ℤ, pos, ◌+ℤ◌, ◌*ℤ◌, List, [], ◌∷◌, map}
use Rattle.num_q.specs.Rounding.{floor_of}
use Rattle.space3.specs.declared.vectors.V3.{V3}
use Rattle.space3.specs.Vectors.{dot_product}
use Rattle.vec_q.specs.Matrices.{M3}
use Rattle.vec_q.specs.Raws.{raws}
use Rattle.vec_q.specs.Rows.{rows_of}
use Rattle.neo_hooke.specs.declared.blocks.FourVectors.{FourVectors}
use Rattle.neo_hooke.specs.Block.{block_of, elastic_block}
use Rattle.neo_hooke.specs.Rest.{RestShape}

-- the vector of a node
abbrev pub vector_at : {F B : ℕ} → FourVectors F B → ℕ → V3
vector_at vectors zero = raws vectors.zero
vector_at vectors (suc zero) = raws vectors.one
vector_at vectors (suc (suc zero)) = raws vectors.two
vector_at vectors (suc (suc (suc n))) = raws vectors.three

-- the block of two nodes, from their rows of the adjugate at rest and their slopes
abbrev pub block_between : (r mu lambda : ℤ) → (first second h l : V3) → M3
block_between r mu lambda first second h l =
    block_of (floor_of (pos 8 *ℤ mu *ℤ dot_product first second) r) (r *ℤ (mu +ℤ lambda)) h l

-- the blocks of a node with each of four, by their rows
abbrev pub blocks_of : (r mu lambda : ℤ) → (row slope : ℕ → V3) → (i : ℕ) → List (List (List ℤ))
blocks_of r mu lambda row slope i =
    map (λ j. rows_of (block_between r mu lambda (row i) (row j) (slope i) (slope j))) (0 ∷ 1 ∷ 2 ∷ 3 ∷ [])

-- the blocks of each two of the four nodes, by their rows
abbrev pub elastic_blocks : RestShape → (mu lambda : ℤ) → List V3 → List (List (List (List ℤ)))
elastic_blocks rest mu lambda x =
    map (λ i. map (λ j. rows_of (elastic_block rest mu lambda x i j)) (0 ∷ 1 ∷ 2 ∷ 3 ∷ [])) (0 ∷ 1 ∷ 2 ∷ 3 ∷ [])
