-- What "nearest" says of the convex hulls of two lists of points.
use Rattle.std.specs.Prelude.{◌≡◌, ℕ, ◌<◌, ℤ, pos, ◌*ℤ◌, ◌≤ℤ◌, List, length, sum}
use Rattle.space3.specs.declared.vectors.V3.{V3}
use Rattle.space3.specs.Vectors.{difference, squared_length}
use Rattle.space3.specs.Weights.{weighted_sum}

-- A weight for each point of both lists, with equal positive sums. Over this sum, the two weighted sums of points are a
-- point of each convex hull, and each two points with fractions as coefficients are of this form.
pub record AreHullWeights (left right : List ℕ) (xs ys : List V3) : Type 0 where
  pub each_left : length left ≡ length xs
  pub each_right : length right ≡ length ys
  pub some : 0 < sum left
  pub balanced : sum left ≡ sum right

-- no two points of the convex hulls have a squared distance below num / den
pub record NoneIsNearer (num den : ℤ) (xs ys : List V3) : Type 0 where
  pub least : (left right : List ℕ) → AreHullWeights left right xs ys →
      let apart = difference (weighted_sum left xs) (weighted_sum right ys) in
      (num *ℤ (pos (sum left) *ℤ pos (sum left))) ≤ℤ (den *ℤ squared_length apart)
