use Rattle.nearest.proofs.OfPoints.{each_ee}
use Rattle.nearest.proofs.laws.candidates_of_edges_are_points.Goals as goal

pub returns : goal.returns
returns c = each_ee
