use Rattle.safe_motion.proofs.Ends.{safe_start, safe_end}
use Rattle.safe_motion.proofs.still_laws.safe_motions_have_safe_ends.Goals as goal

pub returns-clause-start : goal.returns-clause-start
returns-clause-start c = safe_start

pub returns-clause-end : goal.returns-clause-end
returns-clause-end c = safe_end
