-- Fixed nodes that stand where they stood.
use Rattle.std.specs.Prelude.{Bool, not, ◌||◌, List}
use Rattle.std.specs.List.{list_all, zip}
use Rattle.space3.specs.declared.vectors.V3.{V3}
use Rattle.broad_grid.specs.Moving.{is_same}

-- the places of each fixed node are the same, by a flag and two places for each node
abbrev pub have_fixed_stayed : (fixed : List Bool) → (before now : List V3) → Bool
have_fixed_stayed fixed before now =
    list_all (λ node. not node.0.0 || is_same node.0.1 node.1) (zip (zip fixed before) now)
