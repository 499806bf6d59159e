-- Boxes along the axes, over lists of points.
use Rattle.std.specs.Prelude.{ℕ, ℤ, pos, ◌-ℤ◌, ◌≤ℤ◌, ◌&&◌, Bool, List, [], ◌∷◌, map, Any, int_le}
use Rattle.std.specs.List.{fold}
use Rattle.std.specs.Int.{int_min, int_max}
use Rattle.space3.specs.declared.vectors.V3.{V3}
use Rattle.space3.specs.declared.boxes.BoundingBox.{BoundingBox}
use Rattle.space3.specs.Vectors.{vector}

-- c is between the least and the greatest of these numbers
abbrev pub IsBetween : ℤ → List ℤ → Type 0
IsBetween c xs = Any (λ x. x ≤ℤ c) xs × Any (λ x. c ≤ℤ x) xs

-- c is in the least box along the axes that holds all the points
pub record IsInBox (c : V3) (points : List V3) : Type 0 where
  pub x : IsBetween c.x (map (λ p. p.x) points)
  pub y : IsBetween c.y (map (λ p. p.y) points)
  pub z : IsBetween c.z (map (λ p. p.z) points)

-- the two boxes have a common point
abbrev pub BoxesTouch : List V3 → List V3 → Type 0
BoxesTouch xs ys = (c : V3) × IsInBox c xs × IsInBox c ys

-- the least of these numbers, and 0 of none
abbrev pub least_of : List ℤ → ℤ
least_of [] = pos 0
least_of (x ∷ xs) = fold int_min x xs

-- the greatest of these numbers, and 0 of none
abbrev pub greatest_of : List ℤ → ℤ
greatest_of [] = pos 0
greatest_of (x ∷ xs) = fold int_max x xs

-- the least box along the axes that holds all the points: the least and the greatest of each component
abbrev pub box_of : List V3 → BoundingBox
box_of points =
    let xs = map (λ p. p.x) points in
    let ys = map (λ p. p.y) points in
    let zs = map (λ p. p.z) points in record {
      least = vector (least_of xs) (least_of ys) (least_of zs);
      greatest = vector (greatest_of xs) (greatest_of ys) (greatest_of zs);
    }

-- the lesser of each component, and the greater
abbrev pub least_corner : V3 → V3 → V3
least_corner a b = vector (int_min a.x b.x) (int_min a.y b.y) (int_min a.z b.z)

abbrev pub greatest_corner : V3 → V3 → V3
greatest_corner a b = vector (int_max a.x b.x) (int_max a.y b.y) (int_max a.z b.z)

-- the least box that holds both boxes
abbrev pub box_around : BoundingBox → BoundingBox → BoundingBox
box_around a b = record {
  least = least_corner a.least b.least;
  greatest = greatest_corner a.greatest b.greatest;
}

-- the gap between two boxes along an axis: how far the one ends before the other begins, 0 where they share a place
abbrev pub gap_along : (V3 → ℤ) → BoundingBox → BoundingBox → ℤ
gap_along axis a b =
    int_max (pos 0) (int_max (axis b.least -ℤ axis a.greatest) (axis a.least -ℤ axis b.greatest))

-- the gaps along the three axes
abbrev pub gap_of : BoundingBox → BoundingBox → V3
gap_of a b = vector (gap_along (λ p. p.x) a b) (gap_along (λ p. p.y) a b) (gap_along (λ p. p.z) a b)

-- the gap is at most `reach` along each axis
abbrev pub are_within : ℕ → BoundingBox → BoundingBox → Bool
are_within reach a b =
    let gap = gap_of a b in int_le gap.x (pos reach) && int_le gap.y (pos reach) && int_le gap.z (pos reach)
