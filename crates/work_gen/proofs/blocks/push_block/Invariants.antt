use Rattle.std.proofs.Common.{◌≡◌, ◌++◌, map}
use Rattle.std.specs.List.{range_with_len}
use Rattle.work_gen.specs.Stack.{block_tet}
use Rattle.work_gen.proofs.blocks.push_block.Given as goal

abbrev pub invariant-loop-tet : goal.invariant-loop-tet
invariant-loop-tet l = l.made.items ≡ l.fn.made.items ++ map (block_tet l.block) (range_with_len 0 l.tet)
