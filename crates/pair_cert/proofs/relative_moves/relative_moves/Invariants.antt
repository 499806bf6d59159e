use Rattle.std.proofs.Common.{◌≡◌, ◌*◌, ◌≤◌, All, take}
use Rattle.space3.specs.declared.spots.TheConstants.{SPOT_LIMIT}
use Rattle.safe_motion.specs.declared.depth.TheConstants.{DEPTH}
use Rattle.pair_cert.specs.Calls.Moves.{HasRoom, relative_moves}
use Rattle.pair_cert.specs.Parts.{moves_of}
use Rattle.pair_cert.proofs.relative_moves.relative_moves.Given as goal

abbrev pub invariant-loop-i : goal.invariant-loop-i
invariant-loop-i l = record {
  moves : take l.count l.at ≡ relative_moves (take l.i (moves_of l.a)) (moves_of l.b);
  room : All (HasRoom DEPTH) (take l.count l.at);
  count : l.count ≤ SPOT_LIMIT * l.i;
}
