use Rattle.std.proofs.Common.{◌≤◌, ◌+◌, length, take}
use Rattle.box_grid.specs.Calls.Buckets.{HasKeys}
use Rattle.box_grid.proofs.search.append_touching_with.Given as goal

abbrev pub invariant-loop-key : goal.invariant-loop-key
invariant-loop-key l = record {
  keys : HasKeys l.query l.buckets.entries (take l.key-index l.keys) l.initial.found.items l.found.items;
  tested : length l.found.items ≤ length l.initial.found.items + l.tested;
}
