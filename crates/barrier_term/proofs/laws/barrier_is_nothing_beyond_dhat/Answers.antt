use Rattle.barrier_term.specs.Barrier.{energy_at, slope_at}
use Rattle.barrier_term.proofs.Activity.{far_away}
use Rattle.barrier_term.proofs.Beyond.{no_block, no_gradient}
use Rattle.barrier_term.proofs.laws.barrier_is_nothing_beyond_dhat.Goals as goal

pub returns-clause-energy : goal.returns-clause-energy
returns-clause-energy c = λ kappa dhat near. far_away dhat near (energy_at kappa)

pub returns-clause-slope : goal.returns-clause-slope
returns-clause-slope c = λ kappa dhat near. far_away dhat near (slope_at kappa)

pub returns-clause-gradient : goal.returns-clause-gradient
returns-clause-gradient c = no_gradient

pub returns-clause-block : goal.returns-clause-block
returns-clause-block c = no_block
