use Rattle.std.proofs.Common.{◌≡◌, ◌≤◌, ◌++◌, length}
use Rattle.std.specs.List.{flat_map, range_with_len}
use Rattle.broad_grid.specs.Calls.Counts.{HasCounted}
use Rattle.broad_grid.specs.Calls.Rows.{first_part, wanted_row}
use Rattle.broad_grid.proofs.near.append_rows.Given as goal

abbrev pub invariant-loop-a : goal.invariant-loop-a
invariant-loop-a l = record {
  pairs :
      l.pairs.items
      ≡ l.initial.pairs.items ++ flat_map (λ a. wanted_row l.loose l.reach l.surface (first_part l.kind l.firsts a) l.grid) (range_with_len 0 l.a);
  tests : l.initial.tests.n ≤ l.tests.n;
  counted : HasCounted l.initial.tests.n l.tests.n (length l.initial.pairs.items) (length l.pairs.items);
}
