use Rattle.std.proofs.Common.{◌≡◌}
use Rattle.std.specs.List.{flat_map, range_with_len}
use Rattle.work_gen.specs.Stack.{block_tets}
use Rattle.work_gen.proofs.blocks.tets.Given as goal

abbrev pub invariant-loop-block : goal.invariant-loop-block
invariant-loop-block l = l.made.items ≡ flat_map block_tets (range_with_len 0 l.block)
