use Rattle.nearest.proofs.TakenWeights.{two_parts_vt}
use Rattle.nearest.proofs.laws.weights_of_triangle_are_coefficients.Goals as goal

pub returns : goal.returns
returns c = two_parts_vt
