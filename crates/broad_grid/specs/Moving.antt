-- Pairs of parts of which some node moves.
use Rattle.std.specs.Prelude.{Bool, ◌&&◌, List, filter, map}
use Rattle.std.specs.List.{zip}
use Rattle.std.specs.Ordering.{int_eq}
use Rattle.space3.specs.declared.vectors.V3.{V3}
use Rattle.boundary.specs.declared.pairs.Pair.{Pair}
use Rattle.boundary.specs.Surface.{SurfaceLists}
use Rattle.broad_grid.specs.Held.{is_loose}
use Rattle.broad_grid.specs.NearPairs.{swept_pairs_of}

-- two places are the same
abbrev pub is_same : V3 → V3 → Bool
is_same p q = int_eq p.x q.x && int_eq p.y q.y && int_eq p.z q.z

-- for each node whether it ends where it starts
abbrev pub still_nodes : (x0 x1 : List V3) → List Bool
still_nodes x0 x1 = map (λ node. is_same node.0 node.1) (zip x0 x1)

-- the pairs whose boxes touch in a motion and of which some node moves, in the pair order
abbrev pub moving_pairs_of : SurfaceLists → (x0 x1 : List V3) → List Pair
moving_pairs_of s x0 x1 = filter (is_loose (still_nodes x0 x1) s) (swept_pairs_of s x0 x1)
