use Rattle.safe_motion.proofs.Standing.{still_meeting}
use Rattle.safe_motion.proofs.still_laws.still_parts_meet_as_at_the_start.Goals as goal

pub returns : goal.returns
returns c = still_meeting
