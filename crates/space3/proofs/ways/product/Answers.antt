use Rattle.std.proofs.Common.{arith}
use Rattle.space3.proofs.Bounds.{product_size}
use Rattle.space3.proofs.ways.product.Goals as goal

pub returns-clause-bound : goal.returns-clause-bound
returns-clause-bound c = record { bound = product_size c.args.k c.args.a (omega (arith, c.requires.few)) c.requires.near.bound }
