use Rattle.std.proofs.Common.{◌≡◌, take}
use Rattle.std.specs.List.{filter}
use Rattle.broad_grid.specs.Held.{is_loose}
use Rattle.broad_grid.proofs.held.loose_among.Given as goal

abbrev pub invariant-loop-pair : goal.invariant-loop-pair
invariant-loop-pair l = l.loose.items ≡ filter (is_loose l.fixed l.surface) (take l.pair-index l.pairs)
