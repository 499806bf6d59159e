use Rattle.std.proofs.Common.{refl, arith, length}
use Rattle.broad_grid.specs.Calls.Rows.{first_part, wanted_row}
use Rattle.broad_grid.proofs.Counts.{counted_on}
use Rattle.broad_grid.proofs.RowsOfPairs.{rows_more}
use Rattle.broad_grid.proofs.near.append_rows.Goals as goal

pub loop-a-preserved : goal.loop-a-preserved
loop-a-preserved c = record {
  pairs =
      rows_more
      (λ a. wanted_row c.args.loose c.args.reach c.args.surface.now (first_part c.args.kind c.args.firsts.now a) c.args.grid.now)
      c.loop-a.a c.args.pairs.now.items c.loop-a.pairs.items c.append_row.new.pairs.items _ c.loop-a.invariant.pairs refl
      c.in_ok-append_row.ensures.pairs;
  tests = omega (arith, c.loop-a.invariant.tests, c.in_ok-append_row.ensures.tests);
  counted =
      counted_on c.args.tests.now.n c.loop-a.tests.n c.append_row.new.tests.n (length c.args.pairs.now.items) (length c.loop-a.pairs.items)
      (length c.append_row.new.pairs.items) c.in_ok-append_row.ensures.tests c.loop-a.invariant.counted
      c.in_ok-append_row.ensures.counted;
}
