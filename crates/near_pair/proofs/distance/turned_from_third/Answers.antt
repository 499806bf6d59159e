use Rattle.std.proofs.Common.{arith}
use Rattle.near_pair.proofs.TurnedWeights.{turned_ee}
use Rattle.near_pair.proofs.distance.turned_from_third.Goals as goal

pub returns : goal.returns
returns c = turned_ee c.args.weights _ _ (omega arith) c.requires c.turned.ensures c.turned-2.ensures
