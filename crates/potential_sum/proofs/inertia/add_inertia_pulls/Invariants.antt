use Rattle.std.proofs.Common.{◌≡◌, map}
use Rattle.std.specs.List.{range_with_len}
use Rattle.potential_sum.specs.Calls.Inertia.{part_at}
use Rattle.potential_sum.specs.Calls.Sums.{with_parts}
use Rattle.potential_sum.proofs.inertia.add_inertia_pulls.Given as goal

abbrev pub invariant-loop-node : goal.invariant-loop-node
invariant-loop-node l = l.sums ≡ with_parts l.fn.sums (map (part_at l.masses l.targets l.x) (range_with_len 0 l.node))
