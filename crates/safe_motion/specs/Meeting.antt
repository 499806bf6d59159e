-- When two lists of points meet, and what keeps them apart.
use Rattle.std.specs.Prelude.{◌≡◌, ℕ, ◌<◌, pos, ◌<ℤ◌, List, length, sum, All}
use Rattle.space3.specs.declared.vectors.V3.{V3}
use Rattle.safe_motion.specs.declared.motion.Move.{Move}
use Rattle.safe_motion.specs.Moments.{places_at}
use Rattle.space3.specs.Vectors.{difference, dot_product}
use Rattle.space3.specs.Weights.{weighted_sum}

-- These weights show a common point of the two hulls: they have equal positive sums, and the two weighted sums
-- of points are equal.
pub record AreMeetingWeights (left right : List ℕ) (xs ys : List V3) : Type 0 where
  pub each_left : length left ≡ length xs
  pub each_right : length right ≡ length ys
  pub some : 0 < sum left
  pub balanced : sum left ≡ sum right
  pub common : weighted_sum left xs ≡ weighted_sum right ys

-- the convex hulls of the two lists have a common point
abbrev pub Meets : List V3 → List V3 → Type 0
Meets xs ys = (left : List ℕ) × (right : List ℕ) × AreMeetingWeights left right xs ys

-- the two parts meet at the moment p / q
abbrev pub MeetAt : ℕ → ℕ → List Move → List Move → Type 0
MeetAt p q xs ys = Meets (places_at p q xs) (places_at p q ys)

-- the plane across n has every point of the first list strictly on the side of n from every point of the second
abbrev pub Separates : V3 → List V3 → List V3 → Type 0
Separates n xs ys = All (λ a. All (λ b. pos 0 <ℤ dot_product n (difference a b)) ys) xs
