use Rattle.std.proofs.Common.{◌≡◌, take}
use Rattle.std.specs.Prelude.{IfSome}
use Rattle.box_grid.specs.Near.{LiesInTheBox}
use Rattle.broad_grid.specs.Calls.LooseBox.{grown}
use Rattle.broad_grid.proofs.moving.around_parts.Given as goal

abbrev pub invariant-loop-part : goal.invariant-loop-part
invariant-loop-part g l = record {
  value : l.around ≡ grown l.x0 l.x1 l.fixed l.fn.others (take l.part-index l.parts);
  in_box : IfSome l.around LiesInTheBox;
}
