use Rattle.msh_text.proofs.SharedLines.{same_fault_in}
use Rattle.msh_text.proofs.laws.same_fault.Goals as goal

pub returns : goal.returns
returns c = same_fault_in
