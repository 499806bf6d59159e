use Rattle.std.proofs.Common.{lit<}
use Rattle.vec_q.proofs.Products.{difference_of_products}
use Rattle.vec_q.proofs.vectors.minor.Goals as goal

pub difference_within-requires : goal.difference_within-requires
difference_within-requires g c = (
  lit< tt,
  rw (c.mul_into-ad.ensures, c.mul_into-bc.ensures) (difference_of_products c.args.a.raw c.args.d.raw c.args.b.raw c.args.c.raw g.row.B g.row.B2 g.row.B3
      c.args.a.in_range c.args.d.in_range c.args.b.in_range c.args.c.in_range c.requires.sum),
)
