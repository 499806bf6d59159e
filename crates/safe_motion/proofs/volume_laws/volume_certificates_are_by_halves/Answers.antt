use Rattle.safe_motion.specs.Certificates.{StaysPositive}
use Rattle.safe_motion.proofs.HalfIntervals.{positive_inherited}
use Rattle.safe_motion.proofs.Halving.{halves_from_each, each_from_halves}
use Rattle.safe_motion.proofs.volume_laws.volume_certificates_are_by_halves.Goals as goal

pub returns : goal.returns
returns c = λ depth t. (halves_from_each (StaysPositive t) depth, each_from_halves (StaysPositive t) (positive_inherited t) depth)
