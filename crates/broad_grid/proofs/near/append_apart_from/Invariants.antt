use Rattle.std.proofs.Common.{◌≡◌, ◌≤◌, ◌+◌, ◌++◌, length, take}
use Rattle.std.specs.List.{filter}
use Rattle.broad_grid.specs.Calls.Rows.{is_apart_from}
use Rattle.broad_grid.proofs.near.append_apart_from.Given as goal

abbrev pub invariant-loop-b : goal.invariant-loop-b
invariant-loop-b g l = record {
  seconds : l.seconds.items ≡ l.initial.seconds.items ++ filter (is_apart_from l.parts l.nodes) (take l.b-index l.found);
  no_more : length l.seconds.items ≤ length l.initial.seconds.items + l.b-index;
}
