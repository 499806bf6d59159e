use Rattle.msh_text.proofs.Meaning.{means_or_fault_of}
use Rattle.msh_text.proofs.laws.means_or_fault.Goals as goal

pub returns : goal.returns
returns c = means_or_fault_of
