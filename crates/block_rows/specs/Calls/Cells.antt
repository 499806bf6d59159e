-- What the cells of rows hold, as entries.
use Rattle.std.specs.Prelude.{List, map}
use Rattle.space3.specs.Wide.{unbounded}
use Rattle.vec_q.specs.Matrices.{M3, columns}
use Rattle.block_rows.specs.declared.block.Block.{Block}
use Rattle.block_rows.specs.declared.wide.WideBlock.{WideBlock}
use Rattle.block_rows.specs.declared.cells.Cell.{Cell}
use Rattle.block_rows.specs.declared.cells.WideCell.{WideCell}
use Rattle.block_rows.specs.Stored.{Entry, entry}

abbrev pub wide_matrix : WideBlock → M3
wide_matrix block = columns (unbounded block.first) (unbounded block.second) (unbounded block.third)

abbrev pub short_matrix : Block → M3
short_matrix block = columns block.first block.second block.third

abbrev pub wide_entry : WideCell → Entry
wide_entry cell = entry cell.column (wide_matrix cell.block)

abbrev pub short_entry : Cell → Entry
short_entry cell = entry cell.column (short_matrix cell.block)

abbrev pub wide_entries : List WideCell → List Entry
wide_entries cells = map wide_entry cells

abbrev pub short_entries : List Cell → List Entry
short_entries cells = map short_entry cells
