use Rattle.safe_motion.specs.Certificates.{IsServed}
use Rattle.safe_motion.proofs.HalfIntervals.{served_inherited}
use Rattle.safe_motion.proofs.Halving.{each_deeper}
use Rattle.safe_motion.proofs.pair_laws.pair_certificates_deepen.Goals as goal

pub returns : goal.returns
returns c = λ depth xs ys. each_deeper (IsServed xs ys) (served_inherited xs ys) depth
