-- Weights of two parts with 16 fraction bits.
use Rattle.std.specs.Prelude.{◌≡◌, ℕ, ℤ, pos, ◌+ℤ◌, ◌-ℤ◌, ◌*ℤ◌, ◌≤ℤ◌, List, [], ◌∷◌, ◌++◌, take, drop, All, Option, Some, None}
use Rattle.num_q.specs.Rounding.{floor_of}
use Rattle.nearest.specs.declared.limits.TheConstants.{ONE}
use Rattle.nearest.specs.Candidates.{Candidate}

-- a weight over den with 16 fraction bits, rounded down
abbrev pub share : ℤ → ℤ → ℤ
share den weight = floor_of (weight *ℤ pos ONE) den

-- the share of each listed point, 0 of the others
abbrev pub shares_of : ℤ → List (Option ℤ) → List ℤ
shares_of den (Some weight ∷ rest) = share den weight ∷ shares_of den rest
shares_of den (None ∷ rest) = pos 0 ∷ shares_of den rest
shares_of den [] = []

abbrev pub total : List ℤ → ℤ
total (x ∷ xs) = x +ℤ total xs
total [] = pos 0

-- the same, but the first listed point has the rest to 1
abbrev pub part_of : ℤ → List (Option ℤ) → List ℤ
part_of den (Some weight ∷ rest) = (pos ONE -ℤ total (shares_of den rest)) ∷ shares_of den rest
part_of den (None ∷ rest) = pos 0 ∷ part_of den rest
part_of den [] = []

-- the weights of both parts, the first part's first
abbrev pub rounded_weights : Candidate → List ℤ
rounded_weights k = part_of k.den k.left ++ part_of k.den k.right

-- no weight is negative, and together they are 1
pub record AreCoefficients (weights : List ℤ) : Type 0 where
  pub each : All (λ w. pos 0 ≤ℤ w) weights
  pub all : total weights ≡ pos ONE

-- the weights of the first `split` points, and those of the others
pub record AreOfTwoParts (split : ℕ) (weights : List ℤ) : Type 0 where
  pub left : AreCoefficients (take split weights)
  pub right : AreCoefficients (drop split weights)
