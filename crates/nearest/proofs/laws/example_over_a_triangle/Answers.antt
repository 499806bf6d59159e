use Rattle.nearest.proofs.Examples.{over}
use Rattle.nearest.proofs.laws.example_over_a_triangle.Goals as goal

pub returns-clause-taken : goal.returns-clause-taken
returns-clause-taken c = over
