use Rattle.std.proofs.Common.{◌≡◌, ◌≤◌, ◌++◌, length, take}
use Rattle.broad_grid.specs.Calls.Counts.{HasCounted}
use Rattle.broad_grid.specs.Calls.Rows.{near_rows_of_kinds}
use Rattle.broad_grid.proofs.near.append_kinds.Given as goal

abbrev pub invariant-loop-kind : goal.invariant-loop-kind
invariant-loop-kind l = record {
  pairs :
      l.pairs.items
      ≡ l.initial.pairs.items ++ near_rows_of_kinds l.loose l.reach l.surface l.boxes (take l.kind-index l.kinds);
  tests : l.initial.tests.n ≤ l.tests.n;
  counted : HasCounted l.initial.tests.n l.tests.n (length l.initial.pairs.items) (length l.pairs.items);
}
