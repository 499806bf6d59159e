use Rattle.std.proofs.Common.{◌≡◌, ◌*◌, ◌≤◌, take}
use Rattle.space3.specs.Spots.{points}
use Rattle.plane_cut.specs.Calls.Differences.{differences}
use Rattle.plane_cut.proofs.meeting.put_all_differences.Given as goal

abbrev pub invariant-loop-i : goal.invariant-loop-i
invariant-loop-i l = record {
  rows : take l.count l.rows ≡ differences (take l.i l.a.at) (points l.b);
  count : l.count ≤ 4 * l.i;
}
