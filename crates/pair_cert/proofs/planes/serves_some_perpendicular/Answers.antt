use Rattle.pair_cert.specs.Calls.RelativeMoves.{moves_in}
use Rattle.pair_cert.proofs.Separations.{plane_of_ends}
use Rattle.pair_cert.proofs.planes.serves_some_perpendicular.Goals as goal

pub returns-then-serves : goal.returns-then-serves
returns-then-serves c = λ t. (c.perpendicular.result, plane_of_ends c.perpendicular.result (moves_in c.args.moves.now) (c.serves.ensures.0 c.if-serves.true))
