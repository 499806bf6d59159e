use Rattle.barrier_term.proofs.Falling.{falls}
use Rattle.barrier_term.proofs.laws.energy_falls_with_the_distance.Goals as goal

pub returns : goal.returns
returns c = falls
