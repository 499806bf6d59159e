use Rattle.std.proofs.Common.{List, ◌<◌, ◌+◌, ◌*◌, length, sym, subst}
use Rattle.std.specs.Prelude.{All}
use Rattle.list_laws.proofs.Elements.{All-map_back}
use Rattle.block_rows.specs.declared.cells.Cell.{Cell}
use Rattle.block_rows.specs.Calls.Cells.{short_entry}
use Rattle.block_rows.specs.Stored.{Entry}
use Rattle.block_rows.proofs.cells.Row.times.Goals as goal

pub cells_times-requires-clause-inside : goal.cells_times-requires-clause-inside
cells_times-requires-clause-inside c =
    let P = λ (e : Entry). 3 * e.column + 2 < length c.args.p.now in
    subst (λ (cells : List Cell). All (λ cell. P (short_entry cell)) cells) (sym c.deref.ensures.value)
    (All-map_back P short_entry c.self.inside.cells.items (subst (All P) (sym c.self.view_is) c.requires.inside))
