-- The ratio's logarithm grows with what is divided, and isn't above 0 for a ratio of at most 1.
use Rattle.std.proofs.Common.{◌≡◌, ℕ, ◌≤◌, ◌<◌, ◌^◌, pos, ◌-ℤ◌, ◌*ℤ◌, ◌≤ℤ◌, ◌<ℤ◌, refl, arith}
use Rattle.std.proofs.lemmas.Int.{ints}
use Rattle.std.specs.Int.{int_div_euclid}
use Rattle.whole_laws.proofs.Floors.{floor_mono, floor_nonpos}
use Rattle.fixed_log.specs.declared.logarithm.TheConstants.{LN_2}
use Rattle.fixed_log.specs.Logarithm.{lg_of, ln_ratio_of}
use Rattle.fixed_log.proofs.Whole.{lg_of-up}

ratio-is : (a b : ℕ) → ln_ratio_of a b ≡ int_div_euclid ((pos (lg_of a) -ℤ pos (lg_of b)) *ℤ LN_2) (pos (2 ^ 32))
unfolding ln_ratio_of
ratio-is a b = refl

positive : pos 0 <ℤ pos (2 ^ 32)
positive = omega (arith, ints)

pub ln_ratio_of-up : (a b e : ℕ) → 1 ≤ a → a ≤ b → b < 2 ^ 68 → ln_ratio_of a e ≤ℤ ln_ratio_of b e
ln_ratio_of-up a b e h k l = rw (ratio-is a e, ratio-is b e) (floor_mono _ _ (pos (2 ^ 32)) positive (scaled (lg_of a) (lg_of b) (lg_of e) (lg_of-up a b h k l)))
  where
    scaled : (a b e : ℕ) → a ≤ b → ((pos a -ℤ pos e) *ℤ pos 2977044471) ≤ℤ ((pos b -ℤ pos e) *ℤ pos 2977044471)
    scaled a b e h = omega (arith, ints)

pub ln_ratio_of-below : (a b : ℕ) → 1 ≤ a → a ≤ b → b < 2 ^ 68 → ln_ratio_of a b ≤ℤ pos 0
ln_ratio_of-below a b h k l = rw (ratio-is a b) (floor_nonpos _ (pos (2 ^ 32)) positive (scaled (lg_of a) (lg_of b) (lg_of-up a b h k l)))
  where
    scaled : (a b : ℕ) → a ≤ b → ((pos a -ℤ pos b) *ℤ pos 2977044471) ≤ℤ pos 0
    scaled a b h = omega (arith, ints)
