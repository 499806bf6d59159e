use Rattle.std.proofs.Common.{◌+◌, [], refl}
use Rattle.box_grid.specs.Calls.Cells.{slab_keys}
use Rattle.box_grid.proofs.AppendedLists.{append_list}
use Rattle.box_grid.proofs.cells.keys_over.Goals as goal

pub loop-k-preserved : goal.loop-k-preserved
loop-k-preserved c =
    append_list (λ k. slab_keys c.args.cells.now (c.args.cells.now.x + k)) c.loop-k.k [] c.loop-k.keys.items c.append_slab.new.keys.items
    (slab_keys c.args.cells.now (c.args.cells.now.x + c.loop-k.k))
    c.loop-k.invariant c.in_ok-append_slab.ensures refl
