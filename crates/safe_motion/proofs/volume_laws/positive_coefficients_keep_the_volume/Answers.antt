use Rattle.safe_motion.proofs.Volumes.{volume_inside}
use Rattle.safe_motion.proofs.volume_laws.positive_coefficients_keep_the_volume.Goals as goal

pub returns : goal.returns
returns c = volume_inside
