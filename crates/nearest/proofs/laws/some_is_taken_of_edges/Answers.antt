use Rattle.nearest.proofs.SomeTaken.{some_taken_ee}
use Rattle.nearest.proofs.laws.some_is_taken_of_edges.Goals as goal

pub returns : goal.returns
returns c = some_taken_ee
