use Rattle.nearest.proofs.EdgesLaw.{nearest_ee}
use Rattle.nearest.proofs.laws.taken_is_nearest_of_edges.Goals as goal

pub returns : goal.returns
returns c = nearest_ee
