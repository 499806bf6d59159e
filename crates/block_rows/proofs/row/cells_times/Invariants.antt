use Rattle.std.proofs.Common.{◌≡◌, ◌*◌, ◌^◌, take}
use Rattle.space3.specs.Vectors.{Within}
use Rattle.space3.specs.Wide.{unbounded}
use Rattle.block_rows.specs.Calls.Cells.{short_entries}
use Rattle.block_rows.specs.Calls.Products.{entries_times}
use Rattle.block_rows.proofs.row.cells_times.Given as goal

abbrev pub invariant-loop-cell : goal.invariant-loop-cell
invariant-loop-cell l = record {
  value : unbounded l.sum ≡ entries_times l.p (short_entries (take l.cell-index l.cells));
  bound : Within (l.cell-index * 2 ^ 108) (unbounded l.sum);
}
