use Rattle.std.proofs.Common.{◌≡◌, ◌+◌, ◌++◌, take, length}
use Rattle.plane_cut.specs.Calls.Differences.{differences_from}
use Rattle.plane_cut.proofs.meeting.put_differences.Given as goal

abbrev pub invariant-loop-j : goal.invariant-loop-j
invariant-loop-j l = record {
  rows : take l.end l.rows ≡ take l.fn.count l.initial.rows ++ differences_from l.a (take l.j l.b.at);
  count : l.end ≡ l.fn.count + l.j;
  long : length l.rows ≡ 16;
}
