use Rattle.std.proofs.Common.{unsigned_abs}
use Rattle.near_pair.proofs.FarPairs.{far_pair}
use Rattle.barrier_term.proofs.laws.far_boxes_are_beyond_dhat.Goals as goal

pub returns : goal.returns
returns c = λ dhat. far_pair (unsigned_abs dhat)
