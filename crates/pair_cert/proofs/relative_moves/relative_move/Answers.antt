use Rattle.pair_cert.proofs.Rooms.{relative_room}
use Rattle.pair_cert.proofs.relative_moves.relative_move.Goals as goal

pub returns-clause-room : goal.returns-clause-room
returns-clause-room c = rw (c.sub.ensures, c.sub-2.ensures) (relative_room c.args.x c.args.y c.requires.left c.requires.right)
