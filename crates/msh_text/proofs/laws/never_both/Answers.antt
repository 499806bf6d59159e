use Rattle.msh_text.proofs.Meaning.{never_both_of}
use Rattle.msh_text.proofs.laws.never_both.Goals as goal

pub returns : goal.returns
returns c = never_both_of
