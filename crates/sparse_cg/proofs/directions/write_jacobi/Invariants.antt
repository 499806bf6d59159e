use Rattle.space3.specs.declared.ways.TheConstants.{DIRECTION_LIMIT}
use Rattle.space3.specs.Vectors.{Within}
use Rattle.block_rows.specs.Stored.{table_of}
use Rattle.sparse_cg.specs.Jacobi.{jacobi_at}
use Rattle.sparse_cg.specs.Calls.Fronts.{IsFront}
use Rattle.sparse_cg.proofs.directions.write_jacobi.Given as goal

abbrev pub invariant-loop-node : goal.invariant-loop-node
invariant-loop-node l = IsFront (Within DIRECTION_LIMIT) (jacobi_at (table_of l.rows) l.slopes) l.out l.node
