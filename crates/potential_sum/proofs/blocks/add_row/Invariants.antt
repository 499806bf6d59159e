use Rattle.std.specs.Prelude.{slice_index}
use Rattle.potential_sum.specs.Calls.Stiffness.{HaveMore, block_at, in_row}
use Rattle.potential_sum.proofs.blocks.add_row.Given as goal

abbrev pub invariant-loop-j : goal.invariant-loop-j
invariant-loop-j l = HaveMore (in_row l.i (slice_index l.nodes) (block_at l.blocks) l.j) l.j l.fn.sums l.sums
