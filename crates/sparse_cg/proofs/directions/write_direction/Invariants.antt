use Rattle.std.proofs.Common.{map}
use Rattle.space3.specs.declared.ways.TheConstants.{DIRECTION_LIMIT}
use Rattle.space3.specs.Vectors.{Within}
use Rattle.block_rows.specs.Tables.{three_at}
use Rattle.sparse_cg.specs.Directions.{rounded}
use Rattle.sparse_cg.specs.Calls.Fronts.{IsFront}
use Rattle.sparse_cg.proofs.directions.write_direction.Given as goal

abbrev pub invariant-loop-node : goal.invariant-loop-node
invariant-loop-node l = IsFront (Within DIRECTION_LIMIT) (three_at (map rounded l.x)) l.out l.node
