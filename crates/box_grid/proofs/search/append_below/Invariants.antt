use Rattle.std.proofs.Common.{◌≡◌, ◌≤◌, ◌+◌, ◌++◌, length, map, take}
use Rattle.std.specs.List.{filter}
use Rattle.box_grid.specs.Calls.Cells.{entry_item, is_below}
use Rattle.box_grid.proofs.search.append_below.Given as goal

abbrev pub invariant-loop-entry : goal.invariant-loop-entry
invariant-loop-entry l = record {
  items : l.found.items ≡ l.initial.found.items ++ map entry_item (filter (is_below l.bound) (take l.entry-index l.entries));
  tested : length l.found.items ≤ length l.initial.found.items + l.entry-index;
}
