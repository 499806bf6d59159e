use Rattle.num_q.proofs.Bounds.{short_fine}
use Rattle.num_q.proofs.fixed.Q.mul_short.Goals as goal

pub invariant_of-result : goal.invariant_of-result
invariant_of-result g c = record {
  in_range = (short_fine c.short_product.result c.short.result c.short-2.result c.args.self.raw c.args.other.raw g.row.B g.row.B2 g.row.B3 c.short_product.ensures c.short.ensures c.short-2.ensures
      c.args.self.in_range c.args.other.in_range c.requires.left c.requires.right c.requires.sum c.requires.width).below;
  width = c.requires.width;
}
