use Rattle.std.proofs.Common.{◌≡◌, replicate}
use Rattle.space3.specs.Vectors.{origin}
use Rattle.sparse_cg.proofs.work.still.Given as goal

abbrev pub invariant-loop : goal.invariant-loop
invariant-loop l = l.made.items ≡ replicate l.counter origin
