use Rattle.std.proofs.Common.{◌≡◌}
use Rattle.boundary.specs.Calls.PairWalk.{row_from}
use Rattle.boundary.proofs.pairs.first_in_row.Given as goal

abbrev pub invariant-loop-b : goal.invariant-loop-b
invariant-loop-b l = row_from l.surface l.kind l.a l.fn.from ≡ row_from l.surface l.kind l.a l.b
