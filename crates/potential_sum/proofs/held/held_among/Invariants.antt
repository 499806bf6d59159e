use Rattle.std.proofs.Common.{◌≡◌, take}
use Rattle.std.specs.Prelude.{not}
use Rattle.std.specs.List.{filter}
use Rattle.broad_grid.specs.Held.{is_loose}
use Rattle.potential_sum.proofs.held.held_among.Given as goal

abbrev pub invariant-loop-pair : goal.invariant-loop-pair
invariant-loop-pair l = l.held.items ≡ filter (λ p. not (is_loose l.fixed l.surface p)) (take l.pair-index l.pairs)
