use Rattle.plane_cut.proofs.Exclusion.{excludes}
use Rattle.plane_cut.proofs.laws.plane_excludes_weights.Goals as goal

pub returns : goal.returns
returns c = excludes
