use Rattle.neo_hooke.specs.Rest.{edge_matrix}
use Rattle.neo_hooke.proofs.Symmetry.{block_at-comm}
use Rattle.neo_hooke.proofs.laws.blocks_are_symmetric.Goals as goal

pub returns : goal.returns
returns c = λ rest mu lambda x i j. block_at-comm rest mu lambda (edge_matrix x) i j
