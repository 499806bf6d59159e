use Rattle.std.proofs.Common.{◌≡◌, length}
use Rattle.sparse_cg.proofs.work.ones.Given as goal

abbrev pub invariant-loop : goal.invariant-loop
invariant-loop l = length l.made.items ≡ l.counter
