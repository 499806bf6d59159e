use Rattle.boundary.proofs.PairOrder.{pairs_sorted}
use Rattle.boundary.proofs.pairs.pairs_stand_in_order.Goals as goal

pub returns : goal.returns
returns c = pairs_sorted
