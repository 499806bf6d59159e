use Rattle.std.proofs.Common.{◌≡◌, take}
use Rattle.potential_sum.specs.Calls.Sums.{with_pulls}
use Rattle.potential_sum.proofs.pulls.add_pulls.Given as goal

abbrev pub invariant-loop-pull : goal.invariant-loop-pull
invariant-loop-pull l = l.sums ≡ with_pulls l.fn.sums (take l.pull-index l.pulls)
