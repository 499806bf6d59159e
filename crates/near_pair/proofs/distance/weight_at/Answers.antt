use Rattle.std.proofs.Common.{get_or, pos, arith}
use Rattle.near_pair.proofs.TurnedWeights.{small_back}
use Rattle.near_pair.proofs.distance.weight_at.Goals as goal

pub of_raw-requires : goal.of_raw-requires
of_raw-requires c = (omega arith, (small_back (get_or c.args.signed.now c.args.k (pos 0)) (c.requires.each c.args.k (pos 0) (omega arith)).bound, omega arith))
