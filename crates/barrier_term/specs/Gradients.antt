-- The barrier's gradient at the four points of a pair.
use Rattle.std.specs.Prelude.{ℕ, ◌^◌, ℤ, pos, ◌*ℤ◌, List, map}
use Rattle.num_q.specs.Rounding.{floor_of, cut_of}
use Rattle.space3.specs.declared.vectors.V3.{V3}
use Rattle.space3.specs.Vectors.{vector}
use Rattle.nearest.specs.SignedWeights.{signed_weights, signed_sum}
use Rattle.near_pair.specs.declared.near.Near.{Near}
use Rattle.barrier_term.specs.Barrier.{barrier_slope}

-- a slope times a signed weight and a component of the way between the nearest points
abbrev pub pull : ℤ → ℤ → ℤ → ℤ
pull slope weight way = cut_of 90 (floor_of (slope *ℤ weight *ℤ way) (pos (2 ^ 39)))

-- at a point with this signed weight
abbrev pub pull_at : ℤ → V3 → ℤ → V3
pull_at slope way weight = vector (pull slope weight way.x) (pull slope weight way.y) (pull slope weight way.z)

-- at each of the four points
abbrev pub barrier_gradient : (kappa dhat : ℤ) (near : Near) (split : ℕ) (points : List V3) → List V3
barrier_gradient kappa dhat near split points =
    let signed = signed_weights split near.weights in
    map (pull_at (barrier_slope kappa dhat near) (signed_sum signed points)) signed
