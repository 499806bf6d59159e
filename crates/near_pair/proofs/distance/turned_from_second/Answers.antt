use Rattle.std.proofs.Common.{arith}
use Rattle.near_pair.proofs.TurnedWeights.{turned_vt}
use Rattle.near_pair.proofs.distance.turned_from_second.Goals as goal

pub returns : goal.returns
returns c = turned_vt c.args.weights _ _ _ (omega arith) c.requires c.turned.ensures c.turned-2.ensures c.turned-3.ensures
