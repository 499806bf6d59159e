use Rattle.nearest.proofs.Examples.{parallel}
use Rattle.nearest.proofs.laws.example_of_parallel_edges.Goals as goal

pub returns-clause-taken : goal.returns-clause-taken
returns-clause-taken c = parallel
