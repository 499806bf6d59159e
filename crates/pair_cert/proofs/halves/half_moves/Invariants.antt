use Rattle.std.proofs.Common.{◌≡◌, length, map, take}
use Rattle.pair_cert.specs.declared.moves.TheConstants.{MOVE_LIMIT}
use Rattle.pair_cert.specs.Calls.Halves.{half_of}
use Rattle.pair_cert.proofs.halves.half_moves.Given as goal

abbrev pub invariant-loop-i : goal.invariant-loop-i
invariant-loop-i l = record {
  halves : take l.i l.at ≡ map (half_of l.half) (take l.i l.moves.at);
  long : length l.at ≡ MOVE_LIMIT;
}
