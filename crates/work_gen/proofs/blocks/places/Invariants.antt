use Rattle.std.proofs.Common.{◌≡◌}
use Rattle.std.specs.Prelude.{All}
use Rattle.std.specs.List.{flat_map, range_with_len}
use Rattle.space3.specs.Box.{IsInTheBox}
use Rattle.work_gen.specs.Stack.{block_places}
use Rattle.work_gen.proofs.blocks.places.Given as goal

abbrev pub invariant-loop-block : goal.invariant-loop-block
invariant-loop-block l = (l.made.items ≡ flat_map block_places (range_with_len 0 l.block)) × All IsInTheBox l.made.items
