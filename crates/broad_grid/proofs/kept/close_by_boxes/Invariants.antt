use Rattle.std.proofs.Common.{◌≡◌, take}
use Rattle.std.specs.List.{filter}
use Rattle.broad_grid.specs.Calls.Boxes.{has_close_boxes}
use Rattle.broad_grid.proofs.kept.close_by_boxes.Given as goal

abbrev pub invariant-loop-pair : goal.invariant-loop-pair
invariant-loop-pair l = l.close.items ≡ filter (has_close_boxes l.reach l.boxes) (take l.pair-index l.pairs)
