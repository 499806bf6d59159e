-- Words over the fields of sums and of rows.
use Rattle.std.specs.Prelude.{◌≡◌, ℕ, pos, ◌≤◌, ◌*◌, ◌^◌, Bool, false, List, [], ◌∷◌, length, map, All, slice_index_or, if◌then◌else◌}
use Rattle.std.specs.List.{range_with_len}
use Rattle.vec_q.specs.Matrices.{unit_times}
use Rattle.block_rows.specs.declared.sums.TheConstants.{MOST_ADDED}
use Rattle.block_rows.specs.Calls.Entries.{free_row, IsRow, IsSmall}
use Rattle.block_rows.specs.Stored.{Entry, entry, table_of}
use Rattle.block_rows.specs.Tables.{free_table}

-- rows of a square table
pub record AreRows (rows : List (List Entry)) : Type 0 where
  pub few : length rows ≤ 16384
  pub each : All (IsRow (length rows)) rows

-- rows of a table without a block in rows or columns of fixed nodes, to which so many blocks were added
pub record AreSums (fixed : List Bool) (rows : List (List Entry)) (added : ℕ) : Type 0 where
  pub square : AreRows rows
  pub each : length fixed ≡ length rows
  pub free : free_table fixed (table_of rows) ≡ table_of rows
  pub count : added ≤ MOST_ADDED
  pub small : All (IsSmall (added * 2 ^ 86)) rows

-- what stays of a node's row: that of the unit matrix, or what stays of a free node's
abbrev pub kept_row : (fixed : List Bool) → ℕ → List Entry → List Entry
kept_row fixed node row =
    if slice_index_or fixed node false then entry node (unit_times (pos 1)) ∷ [] else free_row fixed row

abbrev pub kept_rows : (fixed : List Bool) → List (List Entry) → List (List Entry)
kept_rows fixed rows = map (λ node. kept_row fixed node (slice_index_or rows node [])) (range_with_len 0 (length rows))
