use Rattle.std.proofs.Common.{arith}
use Rattle.box_grid.specs.Calls.Cells.{touches}
use Rattle.box_grid.proofs.AppendedLists.{append_filtered}
use Rattle.box_grid.proofs.search.append_all_touching.Goals as goal

pub loop-position-preserved : goal.loop-position-preserved
loop-position-preserved c = record {
  found =
      append_filtered (touches c.args.query.now c.args.boxes.now) c.loop-position.position c.args.found.now.items c.loop-position.found.items c.append_where.new.found.items c.is_wanted-wanted.result
      c.loop-position.invariant.found c.in_ok-append_where.ensures.items c.is_wanted-wanted.ensures;
  no_more = omega (arith, c.loop-position.invariant.no_more, c.in_ok-append_where.ensures.one);
}
