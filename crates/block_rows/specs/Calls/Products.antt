-- Products of rows of entries with vectors.
use Rattle.std.specs.Prelude.{ℤ, List, map}
use Rattle.list_laws.specs.Sums.{total}
use Rattle.space3.specs.declared.vectors.V3.{V3}
use Rattle.space3.specs.Vectors.{vector}
use Rattle.vec_q.specs.Matrices.{times_vector}
use Rattle.block_rows.specs.Tables.{three_at}
use Rattle.block_rows.specs.Stored.{Entry}

-- a block times the vector's three numbers in its column
abbrev pub entry_times : List ℤ → Entry → V3
entry_times p e = times_vector e.block (three_at p e.column)

-- the sum of these products
abbrev pub entries_times : List ℤ → List Entry → V3
entries_times p row =
    vector (total (map (λ e. (entry_times p e).x) row)) (total (map (λ e. (entry_times p e).y) row)) (total (map (λ e. (entry_times p e).z) row))
