use Rattle.safe_motion.proofs.Certified.{certified_positive}
use Rattle.safe_motion.proofs.volume_laws.certified_volumes_stay_positive.Goals as goal

pub returns : goal.returns
returns c = certified_positive
