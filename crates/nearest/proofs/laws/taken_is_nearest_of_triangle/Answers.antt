use Rattle.nearest.proofs.TriangleLaw.{nearest_vt}
use Rattle.nearest.proofs.laws.taken_is_nearest_of_triangle.Goals as goal

pub returns : goal.returns
returns c = nearest_vt
