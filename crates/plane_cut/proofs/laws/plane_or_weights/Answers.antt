use Rattle.plane_cut.proofs.Weights.{alternative}
use Rattle.plane_cut.proofs.laws.plane_or_weights.Goals as goal

pub returns : goal.returns
returns c = alternative
