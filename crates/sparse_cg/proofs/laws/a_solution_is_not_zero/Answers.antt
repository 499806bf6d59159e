use Rattle.sparse_cg.proofs.NonZero.{solution_not_zero}
use Rattle.sparse_cg.proofs.laws.a_solution_is_not_zero.Goals as goal

pub returns : goal.returns
returns c = λ nodes table slopes shift direction each fit end none. solution_not_zero nodes table slopes shift each fit direction end none
