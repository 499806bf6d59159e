use Rattle.std.proofs.Common.{◌≡◌, map, take}
use Rattle.potential_sum.specs.Calls.Barriers.{barrier_at}
use Rattle.potential_sum.specs.Calls.Sums.{with_parts}
use Rattle.potential_sum.proofs.barriers.add_barrier_pulls.Given as goal

abbrev pub invariant-loop-pair : goal.invariant-loop-pair
invariant-loop-pair l = l.sums ≡ with_parts l.fn.sums (map (barrier_at l.fn.setup l.fn.x) (take l.pair-index l.fn.pairs))
