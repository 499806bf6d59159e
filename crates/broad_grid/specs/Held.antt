-- Nodes that can't move, and pairs of parts of which some node can.
use Rattle.std.specs.Prelude.{ℕ, Bool, false, not, ◌&&◌, List, filter, slice_index_or}
use Rattle.std.specs.List.{list_all}
use Rattle.space3.specs.declared.vectors.V3.{V3}
use Rattle.boundary.specs.declared.pairs.Pair.{Pair}
use Rattle.boundary.specs.Pairs.{part_pair}
use Rattle.boundary.specs.Surface.{SurfaceLists}
use Rattle.broad_grid.specs.NearPairs.{close_pairs_of}

-- each of these nodes is fixed, by a flag for each node
abbrev pub are_held : (fixed : List Bool) → (nodes : List ℕ) → Bool
are_held fixed nodes = list_all (λ node. slice_index_or fixed node false) nodes

-- some node of a pair's parts isn't
abbrev pub is_loose : (fixed : List Bool) → SurfaceLists → Pair → Bool
is_loose fixed s p = let nodes = part_pair s p in not (are_held fixed nodes.left && are_held fixed nodes.right)

-- the close pairs of which some node isn't, in the pair order
abbrev pub loose_close_pairs_of : (fixed : List Bool) → ℕ → SurfaceLists → List V3 → List Pair
loose_close_pairs_of fixed reach s x = filter (is_loose fixed s) (close_pairs_of reach s x)
