use Rattle.std.proofs.Common.{sym, subst}
use Rattle.box_grid.specs.Near.{LiesInTheBox}
use Rattle.broad_grid.proofs.BoxesInTheBox.{around_in_box}
use Rattle.broad_grid.proofs.boxes.swept_box.Goals as goal

pub returns-clause-in_box : goal.returns-clause-in_box
returns-clause-in_box c =
    subst LiesInTheBox (sym c.box_around.ensures)
    (around_in_box c.part_box.result c.part_box-2.result c.part_box.ensures.in_box c.part_box-2.ensures.in_box)
