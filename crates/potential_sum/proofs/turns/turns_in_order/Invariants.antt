use Rattle.std.proofs.Common.{◌≡◌, map}
use Rattle.std.specs.List.{filter, range_with_len}
use Rattle.std.specs.Prelude.{slice_index_or}
use Rattle.space3.specs.declared.lists.Tet.{Tet}
use Rattle.potential_sum.specs.Calls.Turns.{is_held_as}
use Rattle.potential_sum.proofs.turns.turns_in_order.Given as goal

abbrev pub invariant-loop-position : goal.invariant-loop-position
invariant-loop-position l = (d : Tet) →
    map (λ turn. turn.tet) l.turns.items ≡ filter (λ k. is_held_as l.held l.fixed (slice_index_or l.tets k d).nodes) (range_with_len 0 l.position)
