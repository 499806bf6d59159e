use Rattle.sparse_cg.proofs.Decided.{one_newton_direction}
use Rattle.sparse_cg.proofs.laws.one_newton.Goals as goal

pub returns : goal.returns
returns c = one_newton_direction
