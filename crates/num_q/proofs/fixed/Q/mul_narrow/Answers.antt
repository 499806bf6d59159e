use Rattle.num_q.proofs.Bounds.{narrow_below, narrow_fine}
use Rattle.num_q.proofs.fixed.Q.mul_narrow.Goals as goal

pub narrow_product-requires : goal.narrow_product-requires
narrow_product-requires g c = narrow_below c.short.result c.short-2.result c.args.self.raw c.args.other.raw g.row.B g.row.B2 c.short.ensures c.short-2.ensures c.args.self.in_range c.args.other.in_range c.requires.narrow

pub invariant_of-result : goal.invariant_of-result
invariant_of-result g c = record {
  in_range = (narrow_fine c.narrow_product.result c.short.result c.short-2.result c.args.self.raw c.args.other.raw g.row.B g.row.B2 g.row.B3 c.narrow_product.ensures c.short.ensures c.short-2.ensures
      c.args.self.in_range c.args.other.in_range c.requires.narrow c.requires.sum c.requires.width).below;
  width = c.requires.width;
}
