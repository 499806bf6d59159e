use Rattle.std.proofs.Common.{◌+◌, refl}
use Rattle.box_grid.specs.Calls.Cells.{row_keys}
use Rattle.box_grid.proofs.AppendedLists.{append_list}
use Rattle.box_grid.proofs.cells.append_slab.Goals as goal

pub loop-k-preserved : goal.loop-k-preserved
loop-k-preserved c =
    append_list (λ k. row_keys c.args.cells.now c.args.x (c.args.cells.now.y + k)) c.loop-k.k c.args.keys.now.items c.loop-k.keys.items c.append_row.new.keys.items
    (row_keys c.args.cells.now c.args.x (c.args.cells.now.y + c.loop-k.k))
    c.loop-k.invariant c.in_ok-append_row.ensures refl
