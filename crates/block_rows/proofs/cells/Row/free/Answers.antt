use Rattle.std.proofs.Common.{◌<◌, length, sym, subst}
use Rattle.std.specs.Prelude.{All}
use Rattle.list_laws.proofs.Elements.{All-map_back}
use Rattle.block_rows.specs.Calls.Cells.{wide_entry}
use Rattle.block_rows.specs.Stored.{Entry}
use Rattle.block_rows.proofs.cells.Row.free.Goals as goal

pub free_cells-requires : goal.free_cells-requires
free_cells-requires c =
    let P = λ (e : Entry). e.column < length c.args.fixed.now in
    All-map_back P wide_entry c.cells.result.now (subst (All P) (sym c.cells.ensures) c.requires)
