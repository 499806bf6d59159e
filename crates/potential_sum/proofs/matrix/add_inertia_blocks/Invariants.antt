use Rattle.potential_sum.specs.Calls.Stiffness.{HaveMore, inertia_table}
use Rattle.potential_sum.proofs.matrix.add_inertia_blocks.Given as goal

abbrev pub invariant-loop-node : goal.invariant-loop-node
invariant-loop-node l = HaveMore (inertia_table l.masses l.node) l.node l.fn.sums l.sums
