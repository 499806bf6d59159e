-- Planes through the origin with all rows strictly on one side, and weights that balance the rows.
use Rattle.std.specs.Prelude.{◌≡◌, ℕ, ◌<◌, pos, ◌<ℤ◌, List, length, sum, All}
use Rattle.space3.specs.declared.vectors.V3.{V3}
use Rattle.space3.specs.Vectors.{origin, dot_product}
use Rattle.space3.specs.Weights.{weighted_sum}

-- each row has a positive product with n: it is strictly on the side of n of the plane across n
abbrev pub IsPlane : V3 → List V3 → Type 0
IsPlane n rows = All (λ r. pos 0 <ℤ dot_product n r) rows

-- some whole vector has a positive product with each row
abbrev pub HasPlane : List V3 → Type 0
HasPlane rows = (n : V3) × IsPlane n rows

-- the weights are not all 0, and the weighted sum of the rows is the zero vector
pub record AreBalancingWeights (weights : List ℕ) (rows : List V3) : Type 0 where
  pub each : length weights ≡ length rows
  pub some : 0 < sum weights
  pub balanced : weighted_sum weights rows ≡ origin

-- some whole weights do
abbrev pub HasWeights : List V3 → Type 0
HasWeights rows = (weights : List ℕ) × AreBalancingWeights weights rows
