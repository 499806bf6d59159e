-- The pairs of a surface whose boxes touch in a motion, and those whose boxes are close.
use Rattle.std.specs.Prelude.{ℕ, Bool, true, false, ◌&&◌, List, filter}
use Rattle.space3.specs.declared.vectors.V3.{V3}
use Rattle.space3.specs.Boxes.{are_within}
use Rattle.boundary.specs.declared.pairs.Pair.{Pair}
use Rattle.boundary.specs.declared.pairs.PairKind.{PairKind}
use Rattle.boundary.specs.declared.pairs.PairKind.TheVariants.{VE, VT, EE, ET}
use Rattle.boundary.specs.Pairs.{pairs_of, part_pair}
use Rattle.boundary.specs.Surface.{SurfaceLists}
use Rattle.broad_grid.specs.PartBoxes.{part_box, swept_box}

-- the boxes of a pair's two parts in a motion have a gap of at most `reach` along each axis
abbrev pub are_boxes_within : ℕ → SurfaceLists → List V3 → List V3 → Pair → Bool
are_boxes_within reach s x0 x1 p =
    let nodes = part_pair s p in are_within reach (swept_box x0 x1 nodes.left) (swept_box x0 x1 nodes.right)

-- they have a common point
abbrev pub boxes_touch : SurfaceLists → List V3 → List V3 → Pair → Bool
boxes_touch = are_boxes_within 0

-- the pairs whose boxes touch in a motion, in the pair order
abbrev pub swept_pairs_of : SurfaceLists → List V3 → List V3 → List Pair
swept_pairs_of s x0 x1 = filter (boxes_touch s x0 x1) (pairs_of s)

-- a vertex and a triangle, or two edges
abbrev pub is_of_close_kind : PairKind → Bool
is_of_close_kind VE = false
is_of_close_kind VT = true
is_of_close_kind EE = true
is_of_close_kind ET = false

-- a pair of these kinds the boxes of whose parts have a gap of at most `reach` along each axis
abbrev pub is_close : ℕ → SurfaceLists → List V3 → Pair → Bool
is_close reach s x p =
    let nodes = part_pair s p in
    is_of_close_kind p.kind && are_within reach (part_box x nodes.left) (part_box x nodes.right)

-- the close pairs, in the pair order
abbrev pub close_pairs_of : ℕ → SurfaceLists → List V3 → List Pair
close_pairs_of reach s x = filter (is_close reach s x) (pairs_of s)
