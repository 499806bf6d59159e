use Rattle.nearest.proofs.TakenWeights.{two_parts_ee}
use Rattle.nearest.proofs.laws.weights_of_edges_are_coefficients.Goals as goal

pub returns : goal.returns
returns c = two_parts_ee
