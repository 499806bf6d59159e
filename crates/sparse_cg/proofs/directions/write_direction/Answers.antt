use Rattle.std.proofs.Common.{map, arith}
use Rattle.space3.specs.declared.ways.TheConstants.{DIRECTION_LIMIT}
use Rattle.space3.specs.Vectors.{Within}
use Rattle.block_rows.specs.Tables.{three_at}
use Rattle.sparse_cg.specs.Directions.{rounded}
use Rattle.sparse_cg.proofs.Fronts.{front_each, front_more}
use Rattle.sparse_cg.proofs.directions.write_direction.Goals as goal

pub loop-node-preserved : goal.loop-node-preserved
loop-node-preserved c = front_more (Within DIRECTION_LIMIT) (three_at (map rounded c.args.x.now)) c.loop-node.out c.loop-node.node c.direction_at.result (omega arith) c.direction_at.ensures.value c.direction_at.ensures.short c.loop-node.invariant

pub returns-clause-short : goal.returns-clause-short
returns-clause-short c = front_each (Within DIRECTION_LIMIT) (three_at (map rounded c.args.x.now)) c.loop-node.out c.loop-node.node (omega arith) c.loop-node.invariant
