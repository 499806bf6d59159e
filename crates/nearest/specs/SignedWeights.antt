-- Weights of two parts, where those of the second part have their sign turned: so the way from the second part's point to
-- the first's is one weighted sum.
use Rattle.std.specs.Prelude.{◌≡◌, ℕ, ℤ, pos, neg_ℤ, List, [], ◌∷◌, ◌++◌, map, take, drop}
use Rattle.std.specs.Int.{int_min, int_max}
use Rattle.space3.specs.declared.vectors.V3.{V3}
use Rattle.space3.specs.Vectors.{origin, sum_of, multiple}
use Rattle.nearest.specs.declared.limits.TheConstants.{ONE}
use Rattle.nearest.specs.RoundedWeights.{total}

-- the first part has `split` points
abbrev pub signed_weights : ℕ → List ℤ → List ℤ
signed_weights split weights = take split weights ++ map neg_ℤ (drop split weights)

-- the sum of the points, each times its weight
abbrev pub signed_sum : List ℤ → List V3 → V3
signed_sum (w ∷ ws) (x ∷ xs) = sum_of (multiple w x) (signed_sum ws xs)
signed_sum [] xs = origin
signed_sum (w ∷ ws) [] = origin

-- the weights above 0 add up to 1, which is 65536, and those below 0 to −1
pub record AreBalanced (weights : List ℤ) : Type 0 where
  pub above : total (map (int_max (pos 0)) weights) ≡ pos ONE
  pub below : total (map (int_min (pos 0)) weights) ≡ neg_ℤ (pos ONE)
