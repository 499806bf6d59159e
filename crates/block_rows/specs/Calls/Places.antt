-- Where a column's block stands in a row, or would stand.
use Rattle.std.specs.Prelude.{◌≡◌, ℕ, ◌<◌, ◌≤◌, List, length, slice_index_or}
use Rattle.block_rows.specs.declared.cells.WideCell.{WideCell}

-- the cell at i is that of the column
pub record IsPlaceOf (cells : List WideCell) (column i : ℕ) : Type 0 where
  pub inside : i < length cells
  pub same : (d : WideCell) → (slice_index_or cells i d).column ≡ column

-- no cell is that of the column, and one would stand before the cell at i
pub record IsGapFor (cells : List WideCell) (column i : ℕ) : Type 0 where
  pub within : i ≤ length cells
  pub before : (j : ℕ) (d : WideCell) → j < i → (slice_index_or cells j d).column < column
  pub after : (j : ℕ) (d : WideCell) → i ≤ j → j < length cells → column < (slice_index_or cells j d).column
