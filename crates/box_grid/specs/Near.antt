-- The positions of the boxes that are near another one.
use Rattle.std.specs.Prelude.{ℕ, ◌&&◌, List, nat_le, filter, length, slice_index_or}
use Rattle.std.specs.List.{range_with_len, Contains}
use Rattle.space3.specs.Box.{IsInTheBox}
use Rattle.space3.specs.Boxes.{are_within}
use Rattle.space3.specs.Vectors.{origin}
use Rattle.space3.specs.declared.boxes.BoundingBox.{BoundingBox}

-- both corners are in the box of places
pub record LiesInTheBox (around : BoundingBox) : Type 0 where
  pub least : IsInTheBox around.least
  pub greatest : IsInTheBox around.greatest

-- the box at a position
abbrev pub box_at : List BoundingBox → ℕ → BoundingBox
box_at boxes i = slice_index_or boxes i (record { least = origin; greatest = origin })

-- the positions, from `from` on, of the boxes whose gap to `around` is at most `reach` along each axis, ascending
abbrev pub near_positions : ℕ → BoundingBox → ℕ → List BoundingBox → List ℕ
near_positions reach around from boxes =
    filter (λ i. nat_le from i && are_within reach around (box_at boxes i)) (range_with_len 0 (length boxes))

-- the same numbers as those of a list, in any order and perhaps more than once
pub record HasJust (wanted found : List ℕ) : Type 0 where
  pub each : (x : ℕ) → Contains wanted x → Contains found x
  pub no_other : (x : ℕ) → Contains found x → Contains wanted x
