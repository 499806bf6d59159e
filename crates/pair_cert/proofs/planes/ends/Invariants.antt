use Rattle.std.proofs.Common.{◌≡◌, ◌*◌, length, take}
use Rattle.plane_cut.specs.declared.planes.TheConstants.{ROW_LIMIT}
use Rattle.pair_cert.specs.Calls.Moves.{all_ends}
use Rattle.pair_cert.proofs.planes.ends.Given as goal

abbrev pub invariant-loop-i : goal.invariant-loop-i
invariant-loop-i l = record {
  ends : take (2 * l.i) l.rows ≡ all_ends (take l.i l.moves.at);
  long : length l.rows ≡ ROW_LIMIT;
}
