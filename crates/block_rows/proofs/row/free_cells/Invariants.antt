use Rattle.std.proofs.Common.{◌≡◌, take}
use Rattle.block_rows.specs.Calls.Cells.{short_entries, wide_entries}
use Rattle.block_rows.specs.Calls.Entries.{free_row}
use Rattle.block_rows.proofs.row.free_cells.Given as goal

abbrev pub invariant-loop-cell : goal.invariant-loop-cell
invariant-loop-cell l = short_entries l.made.items ≡ free_row l.fixed (wide_entries (take l.cell-index l.sums))
