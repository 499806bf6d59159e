use Rattle.potential_sum.proofs.Symmetry.{matrix_turned}
use Rattle.potential_sum.proofs.laws.the_matrix_is_symmetric.Goals as goal

pub returns : goal.returns
returns c = matrix_turned
