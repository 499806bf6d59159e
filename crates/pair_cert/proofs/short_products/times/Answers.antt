use Rattle.std.proofs.Common.{◌*◌, ◌^◌, subst, sym}
use Rattle.space3.specs.Vectors.{AtMost}
use Rattle.whole_laws.proofs.Order.{size_prod}
use Rattle.pair_cert.proofs.ShortProducts.{product-clean}
use Rattle.pair_cert.proofs.short_products.times.Goals as goal

pub returns-clause-value : goal.returns-clause-value
returns-clause-value c = product-clean c.args.a c.args.b c.requires.left.bound c.requires.right.bound

pub returns-clause-bound : goal.returns-clause-bound
returns-clause-bound c =
    subst (AtMost (2 ^ 30 * 2 ^ 29)) (sym (returns-clause-value c))
    (record { bound = size_prod c.args.a c.args.b (2 ^ 30) (2 ^ 29) c.requires.left.bound c.requires.right.bound })
