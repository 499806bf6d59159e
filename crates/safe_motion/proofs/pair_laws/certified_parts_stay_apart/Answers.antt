use Rattle.safe_motion.proofs.Certified.{certified_apart}
use Rattle.safe_motion.proofs.pair_laws.certified_parts_stay_apart.Goals as goal

pub returns : goal.returns
returns c = certified_apart
