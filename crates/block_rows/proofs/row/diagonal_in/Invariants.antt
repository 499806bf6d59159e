use Rattle.std.proofs.Common.{◌≡◌, drop}
use Rattle.block_rows.specs.Calls.Cells.{short_entries}
use Rattle.block_rows.specs.Stored.{block_in}
use Rattle.block_rows.proofs.row.diagonal_in.Given as goal

abbrev pub invariant-loop-cell : goal.invariant-loop-cell
invariant-loop-cell l = block_in (short_entries l.cells) l.column ≡ block_in (short_entries (drop l.cell-index l.cells)) l.column
