use Rattle.neo_hooke.proofs.Worked.{energy-worked, gradient-worked}
use Rattle.neo_hooke.proofs.laws.a_stretched_tetrahedron.Goals as goal

pub returns-clause-energy : goal.returns-clause-energy
returns-clause-energy c = energy-worked

pub returns-clause-gradient : goal.returns-clause-gradient
returns-clause-gradient c = gradient-worked
