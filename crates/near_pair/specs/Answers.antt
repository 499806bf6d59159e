-- What the nearest points are said to be.
use Rattle.std.specs.Prelude.{◌≡◌, ℕ, ◌<◌, ◌*◌, ◌/◌, ◌^◌, pos, List, [], ◌∷◌, length, take, drop, max, unsigned_abs, ◌⊎◌, Option, Some, None}
use Rattle.space3.specs.declared.vectors.V3.{V3}
use Rattle.nearest.specs.Candidates.{Candidate, IsFirstLeast, nearest_in}
use Rattle.nearest.specs.Close.{AreClose}
use Rattle.nearest.specs.PointAndTriangle.{vt_candidates}
use Rattle.nearest.specs.RoundedWeights.{rounded_weights, AreOfTwoParts}
use Rattle.nearest.specs.TwoEdges.{ee_candidates}
use Rattle.near_pair.specs.declared.near.Near.{Near}

-- the numbers are the candidate's
pub record Tells (near : Near) (k : Candidate) : Type 0 where
  pub num : pos near.num ≡ k.num
  pub den : pos near.den ≡ k.den
  pub weights : near.weights ≡ rounded_weights k

-- the numbers of the first least of the candidates
pub record IsFirstLeastOf (candidates : List Candidate) (near : Near) : Type 0 where
  pub candidate : Candidate
  pub taken : IsFirstLeast candidates candidate
  pub told : Tells near candidate

-- how great the two numbers of the squared distance may be
pub record IsBounded (near : Near) : Type 0 where
  pub num : near.num < 2 ^ 114
  pub some : 0 < near.den
  pub den : near.den < 2 ^ 76

-- the first part has one point, of a point and a triangle, or two, of two edges
abbrev pub IsSplit : ℕ → Type 0
IsSplit split = (split ≡ 1) ⊎ (split ≡ 2)

-- the weights are on these four points, which are two parts that are close
pub record IsOn (split : ℕ) (points : List V3) (near : Near) : Type 0 where
  pub parts : IsSplit split
  pub close : AreClose (take split points) (drop split points)
  pub weights : AreOfTwoParts split near.weights

-- the squared distance with 8 fraction bits, rounded down but at least 1, so that its logarithm is there
abbrev pub squared_distance : Near → ℕ
squared_distance near = max 1 (256 * near.num / near.den)

-- the nearest points that a candidate stands for
abbrev pub near_by : Option Candidate → Near
near_by (Some k) = record { num = unsigned_abs k.num; den = unsigned_abs k.den; weights = rounded_weights k }
near_by None = record { num = 0; den = 1; weights = [] }

-- a point and a triangle, or two edges
abbrev pub AreFourPoints : List V3 → List V3 → Type 0
AreFourPoints first second = (length first ≡ 1 × length second ≡ 3) ⊎ (length first ≡ 2 × length second ≡ 2)

-- the nearest points of a point and a triangle, or of two edges
abbrev pub near_between : List V3 → List V3 → Near
near_between (p ∷ []) triangle = near_by (nearest_in (vt_candidates p triangle))
near_between first second = near_by (nearest_in (ee_candidates first second))
