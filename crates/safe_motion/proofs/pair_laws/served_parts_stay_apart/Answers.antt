use Rattle.safe_motion.proofs.Certified.{served_apart}
use Rattle.safe_motion.proofs.pair_laws.served_parts_stay_apart.Goals as goal

pub returns : goal.returns
returns c = served_apart
