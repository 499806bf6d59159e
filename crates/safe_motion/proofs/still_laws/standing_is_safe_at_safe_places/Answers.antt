use Rattle.safe_motion.proofs.Ends.{safe_start, standing_safe}
use Rattle.safe_motion.proofs.still_laws.standing_is_safe_at_safe_places.Goals as goal

pub returns : goal.returns
returns c = λ pairs tets x. (safe_start pairs tets x x, standing_safe pairs tets x)
