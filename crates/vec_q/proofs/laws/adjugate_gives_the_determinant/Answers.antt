use Rattle.vec_q.proofs.Adjugates.{adjugate-product, product-adjugate}
use Rattle.vec_q.proofs.laws.adjugate_gives_the_determinant.Goals as goal

pub returns-clause-left : goal.returns-clause-left
returns-clause-left c = adjugate-product

pub returns-clause-right : goal.returns-clause-right
returns-clause-right c = product-adjugate
