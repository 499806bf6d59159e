use Rattle.std.proofs.Common.{◌≡◌, map, take}
use Rattle.std.specs.List.{All}
use Rattle.box_grid.specs.Near.{LiesInTheBox}
use Rattle.broad_grid.specs.PartBoxes.{swept_box}
use Rattle.broad_grid.proofs.boxes.boxes_of_parts.Given as goal

abbrev pub invariant-loop-part : goal.invariant-loop-part
invariant-loop-part g l = record {
  boxes : l.boxes.items ≡ map (swept_box l.x0 l.x1) (take l.part-index l.parts);
  in_box : All LiesInTheBox l.boxes.items;
}
