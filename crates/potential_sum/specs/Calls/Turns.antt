-- Tetrahedra of which each node is fixed, or those of which some node isn't.
use Rattle.std.specs.Prelude.{ℕ, Bool, not, List, filter, length, slice_index_or, if◌then◌else◌}
use Rattle.std.specs.List.{range_with_len}
use Rattle.space3.specs.declared.lists.Tet.{Tet}
use Rattle.broad_grid.specs.Held.{are_held}

-- each of these nodes is fixed, or where that isn't asked for, some node isn't
abbrev pub is_held_as : (held : Bool) → (fixed : List Bool) → (nodes : List ℕ) → Bool
is_held_as held fixed nodes = if held then are_held fixed nodes else not (are_held fixed nodes)

-- the positions of such tetrahedra
abbrev pub positions_of : (held : Bool) → (fixed : List Bool) → List Tet → Tet → List ℕ
positions_of held fixed tets d =
    filter (λ k. is_held_as held fixed (slice_index_or tets k d).nodes) (range_with_len 0 (length tets))
