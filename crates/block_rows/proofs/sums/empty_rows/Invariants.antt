use Rattle.std.proofs.Common.{◌≡◌, [], replicate}
use Rattle.block_rows.proofs.sums.empty_rows.Given as goal

abbrev pub invariant-loop : goal.invariant-loop
invariant-loop l = l.made.items ≡ replicate l.counter []
