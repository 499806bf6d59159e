use Rattle.safe_motion.proofs.Separation.{separates_inside}
use Rattle.safe_motion.proofs.pair_laws.separation_lasts_inside.Goals as goal

pub returns : goal.returns
returns c = separates_inside
