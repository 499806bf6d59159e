use Rattle.std.proofs.Common.{◌≡◌}
use Rattle.std.specs.List.{flat_map, range_with_len}
use Rattle.box_grid.specs.Calls.Cells.{numbers_in}
use Rattle.box_grid.specs.Near.{box_at}
use Rattle.box_grid.proofs.entries.numbers_of_boxes.Given as goal

abbrev pub invariant-loop-item : goal.invariant-loop-item
invariant-loop-item l = l.numbers.items ≡ flat_map (λ i. numbers_in l.level (box_at l.boxes i) i) (range_with_len 0 l.item)
