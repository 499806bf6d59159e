use Rattle.std.proofs.Common.{◌≡◌, ◌<◌, take}
use Rattle.box_grid.specs.Near.{LiesInTheBox}
use Rattle.broad_grid.specs.PartBoxes.{part_box}
use Rattle.broad_grid.proofs.boxes.part_box.Given as goal

abbrev pub invariant-loop-i : goal.invariant-loop-i
invariant-loop-i l = record {
  some : 0 < l.i;
  around : l.around ≡ part_box l.places (take l.i l.nodes);
  in_box : LiesInTheBox l.around;
}
