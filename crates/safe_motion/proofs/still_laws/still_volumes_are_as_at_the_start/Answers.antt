use Rattle.safe_motion.proofs.Standing.{still_volume, still_volume_sign}
use Rattle.safe_motion.proofs.still_laws.still_volumes_are_as_at_the_start.Goals as goal

pub returns-clause-value : goal.returns-clause-value
returns-clause-value c = still_volume

pub returns-clause-sign : goal.returns-clause-sign
returns-clause-sign c = still_volume_sign
