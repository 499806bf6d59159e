use Rattle.num_q.proofs.Nearest.{nearest, halves_upwards}
use Rattle.num_q.proofs.laws.round_is_nearest.Goals as goal

pub returns : goal.returns
returns c = record { nearest = nearest; halves_upwards = halves_upwards }
