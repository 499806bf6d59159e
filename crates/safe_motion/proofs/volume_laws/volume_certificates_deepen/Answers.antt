use Rattle.safe_motion.specs.Certificates.{StaysPositive}
use Rattle.safe_motion.proofs.HalfIntervals.{positive_inherited}
use Rattle.safe_motion.proofs.Halving.{each_deeper}
use Rattle.safe_motion.proofs.volume_laws.volume_certificates_deepen.Goals as goal

pub returns : goal.returns
returns c = λ depth t. each_deeper (StaysPositive t) (positive_inherited t) depth
