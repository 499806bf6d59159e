use Rattle.std.proofs.Common.{refl, []}
use Rattle.box_grid.specs.Calls.Cells.{numbers_in}
use Rattle.box_grid.specs.Near.{box_at}
use Rattle.box_grid.proofs.AppendedLists.{append_list}
use Rattle.box_grid.proofs.entries.numbers_of_boxes.Goals as goal

pub loop-item-preserved : goal.loop-item-preserved
loop-item-preserved c =
    append_list (λ i. numbers_in c.args.level (box_at c.args.boxes.now i) i) c.loop-item.item [] c.loop-item.numbers.items c.append_box.new.numbers.items
    (numbers_in c.args.level (box_at c.args.boxes.now c.loop-item.item) c.loop-item.item)
    c.loop-item.invariant c.in_ok-append_box.ensures refl
