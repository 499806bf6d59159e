use Rattle.fixed_log.proofs.Roots.{root_of-law}
use Rattle.fixed_log.proofs.laws.root_is_greatest.Goals as goal

pub returns : goal.returns
returns c = root_of-law
