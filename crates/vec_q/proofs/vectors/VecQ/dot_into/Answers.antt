use Rattle.std.proofs.Common.{lit<, arith}
use Rattle.vec_q.proofs.Products.{two_products, three_products}
use Rattle.vec_q.proofs.vectors.VecQ.dot_into.Goals as goal

pub sum_within-requires : goal.sum_within-requires
sum_within-requires g c = (
  lit< tt,
  rw (c.mul_into-x.ensures, c.mul_into-y.ensures) (two_products c.args.self.x.raw c.args.other.x.raw c.args.self.y.raw c.args.other.y.raw g.row.B g.row.B2 g.row.B3
      c.args.self.x.in_range c.args.other.x.in_range c.args.self.y.in_range c.args.other.y.in_range (omega (arith, c.requires.sum))),
)

pub sum_within-requires-2 : goal.sum_within-requires-2
sum_within-requires-2 g c = (
  lit< tt,
  rw (c.sum_within.ensures, c.mul_into-x.ensures, c.mul_into-y.ensures, c.mul_into-z.ensures) (three_products c.args.self.x.raw c.args.other.x.raw c.args.self.y.raw c.args.other.y.raw c.args.self.z.raw c.args.other.z.raw g.row.B g.row.B2 g.row.B3
      c.args.self.x.in_range c.args.other.x.in_range c.args.self.y.in_range c.args.other.y.in_range c.args.self.z.in_range c.args.other.z.in_range c.requires.sum),
)
