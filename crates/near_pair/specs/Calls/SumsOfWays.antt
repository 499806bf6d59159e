-- The way between the nearest points as a sum of ways from the first point to the others.
use Rattle.std.specs.Prelude.{◌≡◌, ℕ, ◌<◌, ℤ, pos, List, All, slice_index_or}
use Rattle.space3.specs.declared.vectors.V3.{V3}
use Rattle.space3.specs.Vectors.{AtMost, sum_of, difference, multiple}
use Rattle.space3.specs.Mesh.{place_of}
use Rattle.vec_q.specs.Widths.{IsBelow}
use Rattle.nearest.specs.declared.limits.TheConstants.{ONE}
use Rattle.nearest.specs.SignedWeights.{signed_sum}

-- the way from the first point to another
abbrev pub way_to : List V3 → ℕ → V3
way_to points k = difference (place_of points k) (place_of points 0)

abbrev pub weighted_way : List ℤ → List V3 → ℕ → V3
weighted_way signed points k = multiple (slice_index_or signed k (pos 0)) (way_to points k)

abbrev pub sum_of_ways : List ℤ → List V3 → V3
sum_of_ways signed points = sum_of (sum_of (weighted_way signed points 1) (weighted_way signed points 2)) (weighted_way signed points 3)

-- ways and their sum are narrow, and the sum is that of the points
pub record AreNarrow (signed : List ℤ) (points : List V3) : Type 0 where
  pub each : All (AtMost ONE) signed
  pub ways : (k : ℕ) → 0 < k → k < 4 → IsBelow 18 (way_to points k)
  pub sum : IsBelow 34 (sum_of_ways signed points)
  pub same : sum_of_ways signed points ≡ signed_sum signed points
