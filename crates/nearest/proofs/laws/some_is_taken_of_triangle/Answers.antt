use Rattle.nearest.proofs.SomeTaken.{some_taken_vt}
use Rattle.nearest.proofs.laws.some_is_taken_of_triangle.Goals as goal

pub returns : goal.returns
returns c = some_taken_vt
