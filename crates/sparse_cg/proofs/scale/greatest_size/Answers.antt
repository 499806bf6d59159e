use Rattle.std.proofs.Common.{◌∙◌, ap, arith, unsigned_abs}
use Rattle.sparse_cg.proofs.Shifts.{greatest_more}
use Rattle.sparse_cg.proofs.scale.greatest_size.Goals as goal

pub loop-i-preserved : goal.loop-i-preserved
loop-i-preserved c = record {
  value = greatest_more c.args.slopes.now c.loop-i.i c.loop-i.most c.size_of.result c.max-most.result (omega arith) c.loop-i.invariant.value (c.size_of.ensures.value ∙ ap unsigned_abs c.slope_at.ensures) c.max-most.ensures;
  small = omega arith;
}
