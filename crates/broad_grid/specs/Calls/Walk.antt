-- The near pairs of some kinds.
use Rattle.std.specs.Prelude.{ℕ, ◌&&◌, List, Option, filter}
use Rattle.std.specs.List.{flat_map}
use Rattle.space3.specs.declared.boxes.BoundingBox.{BoundingBox}
use Rattle.space3.specs.declared.vectors.V3.{V3}
use Rattle.boundary.specs.declared.pairs.Pair.{Pair}
use Rattle.boundary.specs.declared.pairs.PairKind.{PairKind}
use Rattle.boundary.specs.Pairs.{pairs_of_kind, part_pair}
use Rattle.boundary.specs.Surface.{SurfaceLists}
use Rattle.broad_grid.specs.NearPairs.{are_boxes_within}
use Rattle.broad_grid.specs.PartBoxes.{swept_box}
use Rattle.broad_grid.specs.Calls.Rows.{is_near_loose}

-- the pairs of these kinds whose boxes in a motion are within the reach
abbrev pub near_pairs_of : ℕ → SurfaceLists → List V3 → List V3 → List PairKind → List Pair
near_pairs_of reach s x0 x1 kinds = filter (are_boxes_within reach s x0 x1) (flat_map (pairs_of_kind s) kinds)

-- those of them whose first part's box is near the box of what isn't fixed
abbrev pub wanted_pairs_of : Option BoundingBox → ℕ → SurfaceLists → List V3 → List V3 → List PairKind → List Pair
wanted_pairs_of loose reach s x0 x1 kinds =
    filter (λ p. is_near_loose reach loose (swept_box x0 x1 (part_pair s p).left) && are_boxes_within reach s x0 x1 p)
    (flat_map (pairs_of_kind s) kinds)
