-- Powers of two for a shift, and numbers shifted by it.
use Rattle.std.proofs.Common.{◌≡◌, ◌∙◌, ℕ, ◌*◌, ◌%◌, ◌≤◌, ◌<◌, ◌^◌, ℤ, pos, ◌<ℤ◌, unsigned_abs, ap, arith, to_z}
use Rattle.std.specs.Int.{w128}
use Rattle.std.proofs.Math.Pow.{pow_mono}
use Rattle.std.proofs.lemmas.Nat.{one_shl, pow_pos}
use Rattle.std.proofs.lemmas.Int.{to_z_pos, ints}
use Rattle.whole_laws.proofs.Floors.{floor_size}
use Rattle.num_q.specs.Rounding.{floor_of}

pub power_is : (k : ℕ) → k ≤ 76 → to_z w128 (1 * 2 ^ k % 2 ^ 128) ≡ pos (2 ^ k)
power_is k h =
    let b : 2 ^ k < 2 ^ 127 = omega (arith, pow_mono {i = k} {j = 76} h) in
    ap (to_z w128) (one_shl k 128 (omega arith)) ∙ to_z_pos w128 (2 ^ k) b

pub power_below : (k : ℕ) → k ≤ 76 → unsigned_abs (to_z w128 (1 * 2 ^ k % 2 ^ 128)) < 2 ^ 77
power_below k h = rw (power_is k h) (omega (arith, pow_mono {i = k} {j = 76} h))

above_zero : (k : ℕ) → pos 0 <ℤ pos (2 ^ k)
above_zero k = below (2 ^ k) (pow_pos k)
  where
    below : (n : ℕ) → 0 < n → pos 0 <ℤ pos n
    below n h = omega (arith, ints)

pub shifted_size : (z : ℤ) (k : ℕ) → unsigned_abs z ≤ 2 ^ 122 → unsigned_abs (floor_of z (pos (2 ^ k))) < 2 ^ 123
shifted_size z k h = omega (arith, floor_size z (pos (2 ^ k)) (above_zero k))
