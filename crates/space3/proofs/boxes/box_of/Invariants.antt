use Rattle.std.proofs.Common.{◌≡◌, ◌<◌, take}
use Rattle.space3.specs.Boxes.{box_of}
use Rattle.space3.proofs.boxes.box_of.Given as goal

abbrev pub invariant-loop-i : goal.invariant-loop-i
invariant-loop-i l = record {
  some : 0 < l.i;
  found : l.found ≡ box_of (take l.i l.points);
}
