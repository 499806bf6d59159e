use Rattle.barrier_term.proofs.Examples.{energy, slope}
use Rattle.barrier_term.proofs.laws.example_over_a_triangle.Goals as goal

pub returns-clause-energy : goal.returns-clause-energy
returns-clause-energy c = energy

pub returns-clause-slope : goal.returns-clause-slope
returns-clause-slope c = slope
