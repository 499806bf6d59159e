use Rattle.msh_text.proofs.Meaning.{one_fault_of}
use Rattle.msh_text.proofs.laws.one_fault.Goals as goal

pub returns : goal.returns
returns c = one_fault_of
