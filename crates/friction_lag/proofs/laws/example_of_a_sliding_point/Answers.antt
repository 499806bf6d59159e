use Rattle.friction_lag.proofs.Examples.{energy, gradient}
use Rattle.friction_lag.proofs.laws.example_of_a_sliding_point.Goals as goal

pub returns-clause-energy : goal.returns-clause-energy
returns-clause-energy c = energy

pub returns-clause-gradient : goal.returns-clause-gradient
returns-clause-gradient c = gradient
