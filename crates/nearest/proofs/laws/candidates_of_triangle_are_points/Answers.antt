use Rattle.nearest.proofs.OfPoints.{each_vt}
use Rattle.nearest.proofs.laws.candidates_of_triangle_are_points.Goals as goal

pub returns : goal.returns
returns c = each_vt
