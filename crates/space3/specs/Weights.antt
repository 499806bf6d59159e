-- Sums of points with weights.
use Rattle.std.specs.Prelude.{ℕ, pos, List, [], ◌∷◌}
use Rattle.space3.specs.declared.vectors.V3.{V3}
use Rattle.space3.specs.Vectors.{origin, sum_of, multiple}

-- the sum of the points, each taken as often as its weight says
abbrev pub weighted_sum : List ℕ → List V3 → V3
weighted_sum (w ∷ ws) (x ∷ xs) = sum_of (multiple (pos w) x) (weighted_sum ws xs)
weighted_sum [] xs = origin
weighted_sum (w ∷ ws) [] = origin
