use Rattle.nearest.proofs.OneTaken.{one_taken}
use Rattle.nearest.proofs.laws.one_is_taken.Goals as goal

pub returns : goal.returns
returns c = one_taken
