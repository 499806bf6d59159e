use Rattle.std.specs.Prelude.{◌*◌}
use Rattle.potential_sum.specs.Calls.Stiffness.{HaveMore, blocks_in, in_rows}
use Rattle.potential_sum.proofs.blocks.add_blocks.Given as goal

abbrev pub invariant-loop-i : goal.invariant-loop-i
invariant-loop-i l = HaveMore (in_rows l.nodes (blocks_in l.blocks) l.i) (4 * l.i) l.fn.sums l.sums
