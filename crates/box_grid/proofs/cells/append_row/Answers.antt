use Rattle.std.proofs.Common.{◌+◌}
use Rattle.box_grid.specs.Calls.Cells.{key_of}
use Rattle.box_grid.proofs.AppendedLists.{append_image}
use Rattle.box_grid.proofs.cells.append_row.Goals as goal

pub loop-k-preserved : goal.loop-k-preserved
loop-k-preserved c =
    append_image (λ k. key_of c.args.x c.args.y (c.args.cells.now.z + k)) _ _ _ _ _ c.loop-k.invariant c.in_ok-push.ensures.items c.key_of.ensures
