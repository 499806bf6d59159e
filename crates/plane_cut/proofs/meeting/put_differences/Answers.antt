use Rattle.std.proofs.Common.{◌<◌, take, length, length-set, arith}
use Rattle.space3.specs.Vectors.{origin}
use Rattle.plane_cut.proofs.Alternative.{row_put}
use Rattle.plane_cut.proofs.meeting.put_differences.Goals as goal

pub loop-j-preserved : goal.loop-j-preserved
loop-j-preserved c =
    let long : c.loop-j.end < length c.loop-j.rows = omega arith in
    record {
      rows = row_put c.loop-j.rows (take c.args.count c.args.rows.now) c.args.a origin c.args.b.now.at c.loop-j.end c.loop-j.j c.sub.result long (omega arith) c.sub.ensures c.loop-j.invariant.rows;
      count = omega arith;
      long = omega (arith, length-set c.loop-j.rows c.loop-j.end c.sub.result);
    }
