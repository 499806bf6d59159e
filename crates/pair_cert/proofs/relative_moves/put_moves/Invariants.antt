use Rattle.std.proofs.Common.{◌≡◌, ◌+◌, ◌++◌, All, take, length}
use Rattle.safe_motion.specs.declared.depth.TheConstants.{DEPTH}
use Rattle.pair_cert.specs.declared.moves.TheConstants.{MOVE_LIMIT}
use Rattle.pair_cert.specs.Calls.Moves.{HasRoom, moves_from}
use Rattle.pair_cert.specs.Parts.{moves_of}
use Rattle.pair_cert.proofs.relative_moves.put_moves.Given as goal

abbrev pub invariant-loop-j : goal.invariant-loop-j
invariant-loop-j l = record {
  moves : take l.end l.at ≡ take l.fn.count l.initial.at ++ moves_from (take l.j (moves_of l.b)) l.x;
  room : All (HasRoom DEPTH) (take l.end l.at);
  count : l.end ≡ l.fn.count + l.j;
  long : length l.at ≡ MOVE_LIMIT;
}
