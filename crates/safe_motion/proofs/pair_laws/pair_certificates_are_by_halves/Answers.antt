use Rattle.safe_motion.specs.Certificates.{IsServed}
use Rattle.safe_motion.proofs.HalfIntervals.{served_inherited}
use Rattle.safe_motion.proofs.Halving.{halves_from_each, each_from_halves}
use Rattle.safe_motion.proofs.pair_laws.pair_certificates_are_by_halves.Goals as goal

pub returns : goal.returns
returns c = λ depth xs ys. (halves_from_each (IsServed xs ys) depth, each_from_halves (IsServed xs ys) (served_inherited xs ys) depth)
