-- Sums of blocks to which contributions are added.
use Rattle.std.specs.Prelude.{◌≡◌, ℕ, ◌+◌, ◌<◌, ◌≤◌, ◌==◌, ◌&&◌, ℤ, pos, List, [], ◌∷◌, map, flat_map, length, slice_index, slice_index_or, if◌then◌else◌}
use Rattle.std.specs.List.{range_with_len}
use Rattle.vec_q.specs.Matrices.{M3}
use Rattle.vec_q.specs.Rows.{matrix_of, rows_of}
use Rattle.vec_q.specs.Widths.{AreBelow}
use Rattle.inertia_term.specs.Inertia.{inertia_block}
use Rattle.block_rows.specs.Stored.{StoredSums, nodes_of, table_of}
use Rattle.block_rows.specs.Tables.{Table, free_table, no_block, sum_of_blocks}
use Rattle.potential_sum.specs.Contributions.{Contribution}
use Rattle.potential_sum.specs.Matrix.{block_total, stiffness_at}

-- the sum of two tables
abbrev pub sum_of_tables : Table → Table → Table
sum_of_tables a b row column = sum_of_blocks (a row column) (b row column)

-- a block at one node's row and another's column
abbrev pub at_pair : (i j : ℕ) → M3 → Table
at_pair i j block row column = if (i == row) && (j == column) then block else no_block

-- blocks in the row of a node, one in the column of each of so many nodes
abbrev pub in_row : (i : ℕ) → (node : ℕ → ℕ) → (block : ℕ → M3) → (count : ℕ) → Table
in_row i node block count row column =
    block_total (map (λ j. at_pair i (node j) (block j) row column) (range_with_len 0 count))

-- blocks in the rows of the first so many of these nodes, one in the column of each
abbrev pub in_rows : (nodes : List ℕ) → (block : (i j : ℕ) → M3) → (count : ℕ) → Table
in_rows nodes block count row column =
    block_total (flat_map (λ i. map (λ j. at_pair (slice_index nodes i) (slice_index nodes j) (block i j) row column)
    (range_with_len 0 (length nodes))) (range_with_len 0 count))

-- a block for each two of these nodes
abbrev pub between : (nodes : List ℕ) → (block : (i j : ℕ) → M3) → Table
between nodes block = in_rows nodes block (length nodes)

-- what contributions add
abbrev pub stiffness_of : List Contribution → Table
stiffness_of parts row column = block_total (map (stiffness_at row column) parts)

-- sums to which this table was added, as so many blocks at most: what stands at free nodes is the sum
pub record HaveMore (more : Table) (many : ℕ) (before after : StoredSums) : Type 0 where
  pub fixed : after.fixed ≡ before.fixed
  pub nodes : nodes_of after.rows ≡ nodes_of before.rows
  pub table : free_table before.fixed (table_of after.rows) ≡ free_table before.fixed (sum_of_tables (table_of before.rows) more)
  pub count : after.added ≤ before.added + many

-- blocks by their rows: four for each of four nodes
abbrev pub four_rows : (ℕ → M3) → List (List (List ℤ))
four_rows block = map (λ j. rows_of (block j)) (0 ∷ 1 ∷ 2 ∷ 3 ∷ [])

abbrev pub sixteen : ((i j : ℕ) → M3) → List (List (List (List ℤ)))
sixteen block = map (λ i. four_rows (block i)) (0 ∷ 1 ∷ 2 ∷ 3 ∷ [])

abbrev pub sixteen_of : Contribution → List (List (List (List ℤ)))
sixteen_of part = sixteen part.blocks

-- the block that stands there
abbrev pub block_at : List (List (List ℤ)) → ℕ → M3
block_at row j = matrix_of (slice_index_or row j [])

abbrev pub blocks_in : List (List (List (List ℤ))) → (i j : ℕ) → M3
blocks_in blocks i j = block_at (slice_index_or blocks i []) j

-- entries of four blocks, and of four times four, are below 2^86
pub record AreFourSmall (row : List (List (List ℤ))) : Type 0 where
  pub each : (j : ℕ) → j < 4 → AreBelow 86 (block_at row j)

pub record AreSixteenSmall (blocks : List (List (List (List ℤ)))) : Type 0 where
  pub each : (i j : ℕ) → i < 4 → j < 4 → AreBelow 86 (blocks_in blocks i j)

-- each block is 0
pub record HasNoBlocks (part : Contribution) : Type 0 where
  pub none : (i j : ℕ) → part.blocks i j ≡ no_block

-- what a contribution adds
abbrev pub stiffness_of_one : Contribution → Table
stiffness_of_one part row column = stiffness_at row column part

-- what the inertia of nodes of these masses adds
abbrev pub inertia_table : (masses : List ℤ) → (count : ℕ) → Table
inertia_table masses count row column =
    block_total (map (λ node. at_pair node node (inertia_block (slice_index_or masses node (pos 0))) row column) (range_with_len 0 count))
