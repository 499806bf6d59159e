use Rattle.nearest.proofs.FirstFound.{first_found}
use Rattle.nearest.proofs.laws.first_least_is_found.Goals as goal

pub returns : goal.returns
returns c = first_found
