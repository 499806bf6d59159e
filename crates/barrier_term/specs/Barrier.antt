-- The barrier of a pair, by the squared distance d of its nearest points and the squared distance e from which on the
-- barrier is 0. Both have 8 fraction bits.
use Rattle.std.specs.Prelude.{ℕ, ◌*◌, ◌^◌, ℤ, pos, ◌+ℤ◌, ◌-ℤ◌, ◌*ℤ◌, neg_ℤ, unsigned_abs, nat_lt, if◌then◌else◌}
use Rattle.num_q.specs.Rounding.{floor_of, cut_of}
use Rattle.fixed_log.specs.Logarithm.{ln_ratio_of}
use Rattle.near_pair.specs.declared.near.Near.{Near}
use Rattle.near_pair.specs.Answers.{squared_distance}

-- the square of dhat
abbrev pub reach_of : ℤ → ℕ
reach_of dhat = 256 * (unsigned_abs dhat * unsigned_abs dhat)

-- what a formula gives where the pair is nearer than dhat, else 0
abbrev pub if_active : ℤ → Near → (ℕ → ℕ → ℤ) → ℤ
if_active dhat near formula =
    let d = squared_distance near in
    let e = reach_of dhat in if nat_lt d e then formula d e else pos 0

-- how far d is inside
abbrev pub depth : ℕ → ℕ → ℤ
depth d e = pos e -ℤ pos d

-- 2·ln(d/e) − e/d + 1 with 24 fraction bits, never above 0: times e − d it is the derivative of −(e − d)²·ln(d/e) in d
abbrev pub steepness : ℕ → ℕ → ℤ
steepness d e = pos 2 *ℤ ln_ratio_of d e -ℤ floor_of (pos e *ℤ pos (2 ^ 24)) (pos d) +ℤ pos (2 ^ 24)

-- −kappa·(e − d)²·ln(d/e)
abbrev pub energy_at : ℤ → ℕ → ℕ → ℤ
energy_at kappa d e = cut_of 90 (floor_of (kappa *ℤ depth d e *ℤ depth d e *ℤ neg_ℤ (ln_ratio_of d e)) (pos (2 ^ 40)))

-- its derivative in d
abbrev pub slope_at : ℤ → ℕ → ℕ → ℤ
slope_at kappa d e = cut_of 73 (floor_of (kappa *ℤ depth d e *ℤ steepness d e) (pos (2 ^ 24)))

abbrev pub barrier_energy : (kappa dhat : ℤ) (near : Near) → ℤ
barrier_energy kappa dhat near = if_active dhat near (energy_at kappa)

abbrev pub barrier_slope : (kappa dhat : ℤ) (near : Near) → ℤ
barrier_slope kappa dhat near = if_active dhat near (slope_at kappa)
