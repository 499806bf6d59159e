use Rattle.nearest.proofs.InsideTaken.{face_taken}
use Rattle.nearest.proofs.laws.inside_of_triangle_is_taken.Goals as goal

pub returns : goal.returns
returns c = face_taken
