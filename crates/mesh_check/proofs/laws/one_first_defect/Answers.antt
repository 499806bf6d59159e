use Rattle.mesh_check.proofs.OneDefect.{one_defect}
use Rattle.mesh_check.proofs.laws.one_first_defect.Goals as goal

pub returns : goal.returns
returns c = one_defect
