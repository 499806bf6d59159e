use Rattle.safe_motion.proofs.Certified.{certified_safe}
use Rattle.safe_motion.proofs.safety.certified_is_safe.Goals as goal

pub returns : goal.returns
returns c = certified_safe
