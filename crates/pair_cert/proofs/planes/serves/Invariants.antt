use Rattle.std.proofs.Common.{All, take}
use Rattle.pair_cert.specs.Calls.Moves.{IsAhead}
use Rattle.pair_cert.proofs.planes.serves.Given as goal

abbrev pub invariant-loop-i : goal.invariant-loop-i
invariant-loop-i l = All (IsAhead l.n) (take l.i l.moves.at)
