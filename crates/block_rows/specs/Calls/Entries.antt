-- Rows of entries: their order, and what adding and cutting make of them.
use Rattle.std.specs.Prelude.{ℕ, ◌<◌, ◌==◌, nat_lt, Bool, false, List, [], ◌∷◌, map, All, slice_index_or, not, if◌then◌else◌, ⊤}
use Rattle.std.specs.List.{filter}
use Rattle.vec_q.specs.Matrices.{M3}
use Rattle.vec_q.specs.Widths.{AreWithin}
use Rattle.block_rows.specs.Stored.{Entry, entry}
use Rattle.block_rows.specs.Tables.{cut_block, sum_of_blocks}

-- columns ascend, no two the same
abbrev pub IsAscending : List Entry → Type 0
IsAscending [] = ⊤
IsAscending (e ∷ es) = All (λ later. e.column < later.column) es × IsAscending es

-- the row where this block is added in its column
abbrev pub with_entry : ℕ → M3 → List Entry → List Entry
with_entry column block [] = entry column block ∷ []
with_entry column block (e ∷ es) =
    if nat_lt e.column column then e ∷ with_entry column block es
    else if e.column == column then entry column (sum_of_blocks e.block block) ∷ es
    else entry column block ∷ e ∷ es

-- a row of a table of so many nodes
pub record IsRow (nodes : ℕ) (row : List Entry) : Type 0 where
  pub ascending : IsAscending row
  pub inside : All (λ e. e.column < nodes) row

-- each entry of each block is at most so much in absolute value
pub record IsSmall (most : ℕ) (row : List Entry) : Type 0 where
  pub small : All (λ e. AreWithin most e.block) row

-- what stays of a free node's row: the blocks in columns of free nodes, cut
abbrev pub cut_entry : Entry → Entry
cut_entry e = entry e.column (cut_block e.block)

abbrev pub free_row : (fixed : List Bool) → List Entry → List Entry
free_row fixed row = map cut_entry (filter (λ e. not (slice_index_or fixed e.column false)) row)
