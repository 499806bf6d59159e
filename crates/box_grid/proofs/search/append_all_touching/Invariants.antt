use Rattle.std.proofs.Common.{◌≡◌, ◌≤◌, ◌+◌, ◌++◌, length}
use Rattle.std.specs.List.{filter, range_with_len}
use Rattle.box_grid.specs.Calls.Cells.{touches}
use Rattle.box_grid.proofs.search.append_all_touching.Given as goal

abbrev pub invariant-loop-position : goal.invariant-loop-position
invariant-loop-position l = record {
  found : l.found.items ≡ l.initial.found.items ++ filter (touches l.query l.boxes) (range_with_len 0 l.position);
  no_more : length l.found.items ≤ length l.initial.found.items + l.position;
}
