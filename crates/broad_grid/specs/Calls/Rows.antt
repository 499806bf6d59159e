-- The near pairs by their first parts.
use Rattle.std.specs.Prelude.{ℕ, ◌≡◌, ◌+◌, ◌<◌, ◌^◌, Bool, true, List, [], Option, Some, None, All, length, map, filter, not, slice_index_or, if◌then◌else◌}
use Rattle.std.specs.List.{flat_map, range_with_len}
use Rattle.space3.specs.declared.boxes.BoundingBox.{BoundingBox}
use Rattle.space3.specs.Boxes.{are_within}
use Rattle.boundary.specs.declared.pairs.Pair.{Pair}
use Rattle.boundary.specs.declared.pairs.PairKind.{PairKind}
use Rattle.boundary.specs.declared.pairs.PairKind.TheVariants.{VE, VT, EE, ET}
use Rattle.boundary.specs.Pairs.{counts, first_parts, pair_of, part_pair, second_parts, share_node}
use Rattle.boundary.specs.Surface.{SurfaceLists}
use Rattle.box_grid.specs.Near.{LiesInTheBox, box_at, near_positions}
use Rattle.broad_grid.specs.declared.near.FirstPart.{FirstPart}
use Rattle.broad_grid.specs.Calls.Boxes.{BoxesOfParts, first_boxes, second_boxes}

-- a first part of its kind, with a box in the box of places
pub record IsFirst (s : SurfaceLists) (first : FirstPart) : Type 0 where
  pub there : first.a < length (first_parts s first.kind)
  pub few : first.a + 1 < 2 ^ 32
  pub in_box : LiesInTheBox first.around

-- one box for each first part of a kind
pub record AreFirst (s : SurfaceLists) (kind : PairKind) (firsts : List BoundingBox) : Type 0 where
  pub as_many : length firsts ≡ length (first_parts s kind)
  pub few : length firsts < 2 ^ 32
  pub in_box : All LiesInTheBox firsts

-- one box for each part of each kind
pub record HasAsMany (s : SurfaceLists) (boxes : BoxesOfParts) : Type 0 where
  pub firsts : (kind : PairKind) → AreFirst s kind (first_boxes boxes kind)
  pub seconds : (kind : PairKind) → length (second_boxes boxes kind) ≡ length (second_parts s kind)

-- the pairs of a first part with those of some second parts that count
abbrev pub pairs_with : SurfaceLists → FirstPart → List ℕ → List Pair
pairs_with s first seconds =
    map (pair_of first.kind first.a) (filter (λ b. counts s (pair_of first.kind first.a b)) seconds)

-- those of some parts, by their positions, that have none of these nodes
abbrev pub is_apart_from : List (List ℕ) → List ℕ → ℕ → Bool
is_apart_from parts nodes b = not (share_node (record { left = nodes; right = slice_index_or parts b [] }))

-- a first and a second part have no common node
abbrev pub are_apart : SurfaceLists → PairKind → ℕ → ℕ → Bool
are_apart s kind a b = not (share_node (part_pair s (pair_of kind a b)))

-- below this position no second part counts with a first one
abbrev pub least_second : PairKind → ℕ → ℕ
least_second VE a = 0
least_second VT a = 0
least_second EE a = a + 1
least_second ET a = 0

-- the near pairs of a first part
abbrev pub near_row : ℕ → SurfaceLists → FirstPart → List BoundingBox → List Pair
near_row reach s first boxes =
    pairs_with s first (near_positions reach first.around (least_second first.kind first.a) boxes)

-- a box is within the reach of the box of what isn't fixed, if there is one
abbrev pub is_near_loose : ℕ → Option BoundingBox → BoundingBox → Bool
is_near_loose reach None around = true
is_near_loose reach (Some loose) around = are_within reach loose around

-- the near pairs of a first part whose box is
abbrev pub wanted_row : Option BoundingBox → ℕ → SurfaceLists → FirstPart → List BoundingBox → List Pair
wanted_row loose reach s first boxes =
    if is_near_loose reach loose first.around then near_row reach s first boxes else []

-- the first part of a kind at a position
abbrev pub first_part : PairKind → List BoundingBox → ℕ → FirstPart
first_part kind firsts a = record { kind = kind; a = a; around = box_at firsts a }

-- the near pairs of a kind
abbrev pub near_rows : Option BoundingBox → ℕ → SurfaceLists → PairKind → List BoundingBox → List BoundingBox → List Pair
near_rows loose reach s kind firsts seconds =
    flat_map (λ a. wanted_row loose reach s (first_part kind firsts a) seconds) (range_with_len 0 (length firsts))

-- the near pairs of some kinds
abbrev pub near_rows_of_kinds : Option BoundingBox → ℕ → SurfaceLists → BoxesOfParts → List PairKind → List Pair
near_rows_of_kinds loose reach s boxes kinds =
    flat_map (λ kind. near_rows loose reach s kind (first_boxes boxes kind) (second_boxes boxes kind)) kinds
