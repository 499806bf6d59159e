use Rattle.std.proofs.Common.{arith}
use Rattle.space3.specs.declared.ways.TheConstants.{DIRECTION_LIMIT}
use Rattle.space3.specs.Vectors.{Within}
use Rattle.block_rows.specs.Stored.{table_of}
use Rattle.sparse_cg.specs.Jacobi.{jacobi_at}
use Rattle.sparse_cg.proofs.Fronts.{front_each, front_more}
use Rattle.sparse_cg.proofs.directions.write_jacobi.Goals as goal

pub loop-node-preserved : goal.loop-node-preserved
loop-node-preserved c = front_more (Within DIRECTION_LIMIT) (jacobi_at (table_of c.args.rows.now) c.args.slopes.now) c.loop-node.out c.loop-node.node c.jacobi_at.result (omega arith) c.jacobi_at.ensures.value c.jacobi_at.ensures.short c.loop-node.invariant

pub returns-clause-short : goal.returns-clause-short
returns-clause-short c = front_each (Within DIRECTION_LIMIT) (jacobi_at (table_of c.args.rows.now) c.args.slopes.now) c.loop-node.out c.loop-node.node (omega arith) c.loop-node.invariant
