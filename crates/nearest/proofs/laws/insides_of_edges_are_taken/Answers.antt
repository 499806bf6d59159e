use Rattle.nearest.proofs.InsideTaken.{inner_taken}
use Rattle.nearest.proofs.laws.insides_of_edges_are_taken.Goals as goal

pub returns : goal.returns
returns c = inner_taken
