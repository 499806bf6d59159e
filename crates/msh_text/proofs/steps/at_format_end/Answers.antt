use Rattle.std.proofs.Common.{refl}
use Rattle.msh_text.specs.FirstFault.{kind_on}
use Rattle.msh_text.proofs.steps.at_format_end.Goals as goal

pub returns : goal.returns
unfolding kind_on
returns c = rw c.refusal.ensures (c.in-Err.ensures, refl)
