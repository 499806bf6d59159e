-- The points that a candidate stands for.
use Rattle.std.specs.Prelude.{◌≡◌, ℤ, pos, ◌+ℤ◌, ◌*ℤ◌, List, [], ◌∷◌, Option, Some, None}
use Rattle.space3.specs.declared.vectors.V3.{V3}
use Rattle.space3.specs.Vectors.{origin, sum_of, difference, multiple, squared_length}
use Rattle.nearest.specs.Candidates.{Candidate}

-- the sum of the listed points, each times its weight
abbrev pub listed_sum : List (Option ℤ) → List V3 → V3
listed_sum (Some w ∷ ws) (x ∷ xs) = sum_of (multiple w x) (listed_sum ws xs)
listed_sum (None ∷ ws) (x ∷ xs) = listed_sum ws xs
listed_sum [] xs = origin
listed_sum (w ∷ ws) [] = origin

-- the sum of the weights
abbrev pub listed_total : List (Option ℤ) → ℤ
listed_total (Some w ∷ ws) = w +ℤ listed_total ws
listed_total (None ∷ ws) = listed_total ws
listed_total [] = pos 0

-- The weights of each part add up to `den`, and num / den is the squared distance of the two points with these weights
-- over `den`.
pub record IsDistance (c : Candidate) (xs ys : List V3) : Type 0 where
  pub left : listed_total c.left ≡ c.den
  pub right : listed_total c.right ≡ c.den
  pub distance : c.num *ℤ c.den ≡ squared_length (difference (listed_sum c.left xs) (listed_sum c.right ys))
