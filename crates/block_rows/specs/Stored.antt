-- Tables as they are stored: for each node the blocks that stand in its row, each with its column. What stands in a
-- place of no entry is 0. Callers name the nodes and the table alone.
use Rattle.std.specs.Prelude.{ℕ, ◌==◌, Bool, List, [], ◌∷◌, length, slice_index_or, if◌then◌else◌}
use Rattle.vec_q.specs.Matrices.{M3}
use Rattle.block_rows.specs.Tables.{Table, no_block}

-- a block in a column
pub record Entry : Type 0 where
  pub column : ℕ
  pub block : M3

abbrev pub entry : ℕ → M3 → Entry
entry column block = record { column = column; block = block }

-- the block in a column
abbrev pub block_in : List Entry → ℕ → M3
block_in [] column = no_block
block_in (e ∷ es) column = if e.column == column then e.block else block_in es column

-- the table of rows
abbrev pub table_of : List (List Entry) → Table
table_of rows row column = block_in (slice_index_or rows row []) column

-- how many nodes they are of
abbrev pub nodes_of : List (List Entry) → ℕ
nodes_of rows = length rows

-- the rows of sums, whether each node is fixed, and how many blocks were added
pub record StoredSums : Type 0 where
  pub rows : List (List Entry)
  pub fixed : List Bool
  pub added : ℕ
