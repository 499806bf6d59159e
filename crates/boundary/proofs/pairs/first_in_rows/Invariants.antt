use Rattle.std.proofs.Common.{◌≡◌}
use Rattle.boundary.specs.Calls.PairWalk.{rows_from}
use Rattle.boundary.proofs.pairs.first_in_rows.Given as goal

abbrev pub invariant-loop-a : goal.invariant-loop-a
invariant-loop-a l = rows_from l.surface l.kind l.fn.from ≡ rows_from l.surface l.kind l.a
