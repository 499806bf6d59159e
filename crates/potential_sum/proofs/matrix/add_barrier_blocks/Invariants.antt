use Rattle.std.proofs.Common.{◌*◌, map, take}
use Rattle.potential_sum.specs.Calls.Barriers.{barrier_at}
use Rattle.potential_sum.specs.Calls.Stiffness.{HaveMore, stiffness_of}
use Rattle.potential_sum.proofs.matrix.add_barrier_blocks.Given as goal

abbrev pub invariant-loop-pair : goal.invariant-loop-pair
invariant-loop-pair l = HaveMore (stiffness_of (map (barrier_at l.fn.setup l.x) (take l.pair-index l.pairs))) (16 * l.pair-index) l.fn.sums l.sums
