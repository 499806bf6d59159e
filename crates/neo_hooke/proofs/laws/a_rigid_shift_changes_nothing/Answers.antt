use Rattle.std.proofs.Common.{ap}
use Rattle.vec_q.specs.Matrices.{M3}
use Rattle.neo_hooke.specs.Block.{block_at}
use Rattle.neo_hooke.specs.Energy.{energy_of}
use Rattle.neo_hooke.specs.Gradient.{pulls_of, with_balance}
use Rattle.neo_hooke.proofs.Shifts.{edge_matrix-shifted}
use Rattle.neo_hooke.proofs.laws.a_rigid_shift_changes_nothing.Goals as goal

pub returns-clause-energy : goal.returns-clause-energy
returns-clause-energy c = λ rest mu lambda d x h. ap (energy_of rest mu lambda) (edge_matrix-shifted d x h)

pub returns-clause-gradient : goal.returns-clause-gradient
returns-clause-gradient c = λ rest mu lambda d x h. ap (λ (edges : M3). with_balance (pulls_of rest mu lambda edges)) (edge_matrix-shifted d x h)

pub returns-clause-block : goal.returns-clause-block
returns-clause-block c = λ rest mu lambda d x i j h. ap (λ (edges : M3). block_at rest mu lambda edges i j) (edge_matrix-shifted d x h)
