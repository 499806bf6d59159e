use Rattle.neo_hooke.proofs.AtRest.{energy-rest, gradient-rest}
use Rattle.neo_hooke.proofs.laws.nothing_pulls_at_rest.Goals as goal

pub returns-clause-energy : goal.returns-clause-energy
returns-clause-energy c = energy-rest

pub returns-clause-gradient : goal.returns-clause-gradient
returns-clause-gradient c = gradient-rest
