-- The signs of the barrier's factors.
use Rattle.std.proofs.Common.{◌≡◌, ℕ, ◌≤◌, ◌^◌, ℤ, pos, ◌+ℤ◌, ◌-ℤ◌, ◌*ℤ◌, neg_ℤ, ◌≤ℤ◌, ◌<ℤ◌, arith}
use Rattle.std.proofs.lemmas.Int.{ints}
use Rattle.whole_laws.proofs.Floors.{floor_least}
use Rattle.whole_laws.proofs.Order.{mul_pos_ℤ}
use Rattle.num_q.specs.Rounding.{floor_of}

pub turned : (l r o : ℤ) → (pos 2 *ℤ neg_ℤ l +ℤ r) -ℤ o ≡ neg_ℤ (pos 2 *ℤ l -ℤ r +ℤ o)
turned l r o = omega (arith, ints)

-- a ratio that is not below 1
pub ratio_above : (d e : ℕ) → 1 ≤ d → d ≤ e → pos (2 ^ 24) ≤ℤ floor_of (pos e *ℤ pos (2 ^ 24)) (pos d)
ratio_above d e h k = floor_least (pos e *ℤ pos (2 ^ 24)) (pos d) (pos (2 ^ 24)) (positive d h) (ordered d e k)
  where
    positive : (d : ℕ) → 1 ≤ d → pos 0 <ℤ pos d
    positive d h = omega (arith, ints)

    ordered : (d e : ℕ) → d ≤ e → (pos d *ℤ pos (2 ^ 24)) ≤ℤ (pos e *ℤ pos (2 ^ 24))
    ordered d e h = omega (arith, ints)

pub steep : (l r : ℤ) → pos 0 ≤ℤ l → pos (2 ^ 24) ≤ℤ r → pos 0 ≤ℤ ((pos 2 *ℤ l +ℤ r) -ℤ pos (2 ^ 24))
steep l r h k = omega (arith, ints)

pub square-pos : (d : ℕ) → 1 ≤ d → pos 0 <ℤ (pos d *ℤ pos d)
square-pos d h = mul_pos_ℤ (pos d) (pos d) (positive d h) (positive d h)
  where
    positive : (d : ℕ) → 1 ≤ d → pos 0 <ℤ pos d
    positive d h = omega (arith, ints)
