-- The smooth length and its rate below the slip: polynomials of the slide Y and the slip E.
use Rattle.std.proofs.Common.{◌≡◌, ℕ, ◌≤◌, ◌<◌, ◌^◌, ℤ, pos, ◌+ℤ◌, ◌-ℤ◌, ◌*ℤ◌, ◌≤ℤ◌, ◌<ℤ◌, [], ◌∷◌, true, false, unsigned_abs, inl, inr, sym, subst, arith}
use Rattle.std.proofs.lemmas.Int.{ints}
use Rattle.std.proofs.lemmas.Bool.{cases_lt}
use Rattle.std.specs.Prelude.{nat_lt, if◌then◌else◌}
use Rattle.num_q.specs.Rounding.{floor_of}
use Rattle.whole_laws.proofs.Floors.{floor_nonneg, floor_below, floor_mono}
use Rattle.whole_laws.proofs.Order.{mul_pos_ℤ, mul_nonneg_ℤ, add_nonneg_ℤ, nonneg_of_pos, nonneg_from_le, le_from_nonneg}
use Rattle.whole_laws.proofs.Ring.{ring, v, num, ◌⊕◌, ◌⊖◌, ◌⊗◌}
use Rattle.nearest.proofs.LowerBounds.{twice-nonneg}
use Rattle.friction_lag.specs.Friction.{smooth_length, smooth_rate}

-- what is divided, and by what
abbrev pub cubic : ℤ → ℤ → ℤ
cubic Y E = pos 3 *ℤ (E *ℤ (Y *ℤ Y)) -ℤ Y *ℤ (Y *ℤ Y) +ℤ E *ℤ (E *ℤ E)

abbrev pub thrice_square : ℤ → ℤ
thrice_square E = pos 3 *ℤ (E *ℤ E)

pub thrice_square-pos : (E : ℤ) → pos 0 <ℤ E → pos 0 <ℤ thrice_square E
thrice_square-pos E h = mul_pos_ℤ (pos 3) (E *ℤ E) (record { lt = tt }) (mul_pos_ℤ E E h h)

minus-nonneg : (a b : ℤ) → a ≤ℤ b → pos 0 ≤ℤ (b -ℤ a)
minus-nonneg = nonneg_from_le

-- 3E³ less the cubic is (E − Y)·(2E² + Y·(E + (E − Y)))
cubic_high : (Y E : ℤ) → pos 0 ≤ℤ Y → Y ≤ℤ E → cubic Y E ≤ℤ (thrice_square E *ℤ E)
cubic_high Y E hy hye =
    let d = minus-nonneg Y E hye in
    let he = through Y E hy hye in
    le_from_nonneg (cubic Y E) (thrice_square E *ℤ E) (subst (λ (z : ℤ). pos 0 ≤ℤ z) split
    (mul_nonneg_ℤ (E -ℤ Y) (pos 2 *ℤ (E *ℤ E) +ℤ Y *ℤ (E +ℤ (E -ℤ Y))) d (add_nonneg_ℤ _ _ (twice-nonneg (E *ℤ E) (mul_nonneg_ℤ E E he he)) (mul_nonneg_ℤ Y (E +ℤ (E -ℤ Y)) hy (add_nonneg_ℤ E (E -ℤ Y) he d)))))
  where
    through : (Y E : ℤ) → pos 0 ≤ℤ Y → Y ≤ℤ E → pos 0 ≤ℤ E
    through Y E h k = omega (arith, ints)

    split : (E -ℤ Y) *ℤ (pos 2 *ℤ (E *ℤ E) +ℤ Y *ℤ (E +ℤ (E -ℤ Y))) ≡ thrice_square E *ℤ E -ℤ cubic Y E
    split =
        ring (Y ∷ E ∷ [])
        ((v 1 ⊖ v 0) ⊗ (num (pos 2) ⊗ (v 1 ⊗ v 1) ⊕ v 0 ⊗ (v 1 ⊕ (v 1 ⊖ v 0))))
        ((num (pos 3) ⊗ (v 1 ⊗ v 1)) ⊗ v 1 ⊖ (num (pos 3) ⊗ (v 1 ⊗ (v 0 ⊗ v 0)) ⊖ v 0 ⊗ (v 0 ⊗ v 0) ⊕ v 1 ⊗ (v 1 ⊗ v 1))) tt

-- the cubic less that of no slide is Y²·(2E + (E − Y))
cubic_low : (Y E : ℤ) → pos 0 ≤ℤ Y → Y ≤ℤ E → cubic (pos 0) E ≤ℤ cubic Y E
cubic_low Y E hy hye =
    le_from_nonneg (cubic (pos 0) E) (cubic Y E) (subst (λ (z : ℤ). pos 0 ≤ℤ z) split (mul_nonneg_ℤ (Y *ℤ Y) (pos 2 *ℤ E +ℤ (E -ℤ Y)) (mul_nonneg_ℤ Y Y hy hy) (sum Y E hy hye)))
  where
    sum : (Y E : ℤ) → pos 0 ≤ℤ Y → Y ≤ℤ E → pos 0 ≤ℤ (pos 2 *ℤ E +ℤ (E -ℤ Y))
    sum Y E h k = omega (arith, ints)

    split : (Y *ℤ Y) *ℤ (pos 2 *ℤ E +ℤ (E -ℤ Y)) ≡ cubic Y E -ℤ cubic (pos 0) E
    split =
        ring (Y ∷ E ∷ [])
        ((v 0 ⊗ v 0) ⊗ (num (pos 2) ⊗ v 1 ⊕ (v 1 ⊖ v 0)))
        ((num (pos 3) ⊗ (v 1 ⊗ (v 0 ⊗ v 0)) ⊖ v 0 ⊗ (v 0 ⊗ v 0) ⊕ v 1 ⊗ (v 1 ⊗ v 1))
        ⊖ (num (pos 3) ⊗ (v 1 ⊗ (num (pos 0) ⊗ num (pos 0))) ⊖ num (pos 0) ⊗ (num (pos 0) ⊗ num (pos 0)) ⊕ v 1 ⊗ (v 1 ⊗ v 1))) tt

abbrev pub below_slip : ℤ → ℤ → ℤ
below_slip Y E = floor_of (cubic Y E) (thrice_square E)

pub below_slip-nonneg : (Y E : ℤ) → pos 0 <ℤ E → pos 0 ≤ℤ Y → Y ≤ℤ E → pos 0 ≤ℤ below_slip Y E
below_slip-nonneg Y E he hy hye = floor_nonneg (cubic Y E) (thrice_square E) (thrice_square-pos E he) (through (cubic (pos 0) E) (cubic Y E) start (cubic_low Y E hy hye))
  where
    through : (a b : ℤ) → pos 0 ≤ℤ a → a ≤ℤ b → pos 0 ≤ℤ b
    through a b h k = omega (arith, ints)

    start : pos 0 ≤ℤ cubic (pos 0) E
    start =
        subst (λ (z : ℤ). pos 0 ≤ℤ z)
        (ring (E ∷ []) (v 0 ⊗ (v 0 ⊗ v 0)) (num (pos 3) ⊗ (v 0 ⊗ (num (pos 0) ⊗ num (pos 0))) ⊖ num (pos 0) ⊗ (num (pos 0) ⊗ num (pos 0)) ⊕ v 0 ⊗ (v 0 ⊗ v 0)) tt)
        (mul_nonneg_ℤ E (E *ℤ E) (nonneg_of_pos E he) (mul_nonneg_ℤ E E (nonneg_of_pos E he) (nonneg_of_pos E he)))

pub below_slip-high : (Y E : ℤ) → pos 0 <ℤ E → pos 0 ≤ℤ Y → Y ≤ℤ E → below_slip Y E ≤ℤ E
below_slip-high Y E he hy hye =
    less _ E (floor_below (cubic Y E) (thrice_square E) (E +ℤ pos 1) (thrice_square-pos E he) (above (cubic Y E) (thrice_square E *ℤ E) (thrice_square E) (thrice_square E *ℤ (E +ℤ pos 1)) (cubic_high Y E hy hye) (thrice_square-pos E he) more))
  where
    less : (a b : ℤ) → a <ℤ (b +ℤ pos 1) → a ≤ℤ b
    less a b h = omega (arith, ints)

    above : (a b c d : ℤ) → a ≤ℤ b → pos 0 <ℤ c → b +ℤ c ≡ d → a <ℤ d
    above a b c d h k e = omega (arith, ints)

    more : thrice_square E *ℤ E +ℤ thrice_square E ≡ thrice_square E *ℤ (E +ℤ pos 1)
    more = ring (thrice_square E ∷ E ∷ []) (v 0 ⊗ v 1 ⊕ v 0) (v 0 ⊗ (v 1 ⊕ num (pos 1))) tt

pub below_slip-low : (Y E : ℤ) → pos 0 <ℤ E → pos 0 ≤ℤ Y → Y ≤ℤ E → below_slip (pos 0) E ≤ℤ below_slip Y E
below_slip-low Y E he hy hye = floor_mono (cubic (pos 0) E) (cubic Y E) (thrice_square E) (thrice_square-pos E he) (cubic_low Y E hy hye)

-- ---- the rate
abbrev pub rate_below : ℤ → ℤ → ℤ
rate_below Y E = floor_of ((pos 2 *ℤ E -ℤ Y) *ℤ pos (2 ^ 40)) (E *ℤ E)

pub rate_below-nonneg : (Y E : ℤ) → pos 0 <ℤ E → pos 0 ≤ℤ Y → Y ≤ℤ E → pos 0 ≤ℤ rate_below Y E
rate_below-nonneg Y E he hy hye = floor_nonneg _ (E *ℤ E) (mul_pos_ℤ E E he he) (scaled Y E hy hye)
  where
    scaled : (Y E : ℤ) → pos 0 ≤ℤ Y → Y ≤ℤ E → pos 0 ≤ℤ ((pos 2 *ℤ E -ℤ Y) *ℤ pos (2 ^ 40))
    scaled Y E h k = omega (arith, ints)

pub rate_below-high : (Y E : ℤ) → pos 65536 ≤ℤ E → pos 0 ≤ℤ Y → Y ≤ℤ E → rate_below Y E ≤ℤ pos (2 ^ 25)
rate_below-high Y E he hy hye =
    less _ (floor_below _ (E *ℤ E) (pos 33554433) (mul_pos_ℤ E E (positive E he) (positive E he)) (above Y E (E *ℤ (E -ℤ pos 65536)) (E *ℤ E) hy hye (mul_nonneg_ℤ E (E -ℤ pos 65536) (nonneg_of_pos E (positive E he)) (minus-nonneg (pos 65536) E he)) (positive E he) split))
  where
    positive : (E : ℤ) → pos 65536 ≤ℤ E → pos 0 <ℤ E
    positive E h = omega (arith, ints)

    less : (a : ℤ) → a <ℤ pos 33554433 → a ≤ℤ pos (2 ^ 25)
    less a h = omega (arith, ints)

    split : E *ℤ E -ℤ pos 65536 *ℤ E ≡ E *ℤ (E -ℤ pos 65536)
    split = ring (E ∷ []) (v 0 ⊗ v 0 ⊖ num (pos 65536) ⊗ v 0) (v 0 ⊗ (v 0 ⊖ num (pos 65536))) tt

    -- with s = E² and t = E·(E − 65536)
    above : (Y E t s : ℤ) → pos 0 ≤ℤ Y → Y ≤ℤ E → pos 0 ≤ℤ t → pos 0 <ℤ E → s -ℤ pos 65536 *ℤ E ≡ t → ((pos 2 *ℤ E -ℤ Y) *ℤ pos (2 ^ 40)) <ℤ (s *ℤ pos 33554433)
    above Y E t s h k l m e = omega (arith, ints)

abbrev pub rate_above : ℤ → ℤ
rate_above Y = floor_of (pos (2 ^ 40)) Y

pub rate_above-nonneg : (Y : ℤ) → pos 65536 ≤ℤ Y → pos 0 ≤ℤ rate_above Y
rate_above-nonneg Y h = floor_nonneg (pos (2 ^ 40)) Y (positive Y h) (omega (arith, ints))
  where
    positive : (Y : ℤ) → pos 65536 ≤ℤ Y → pos 0 <ℤ Y
    positive Y h = omega (arith, ints)

pub rate_above-high : (Y : ℤ) → pos 65536 ≤ℤ Y → rate_above Y ≤ℤ pos (2 ^ 25)
rate_above-high Y h = less _ (floor_below (pos (2 ^ 40)) Y (pos 33554433) (positive Y h) (above Y h))
  where
    positive : (Y : ℤ) → pos 65536 ≤ℤ Y → pos 0 <ℤ Y
    positive Y h = omega (arith, ints)

    less : (a : ℤ) → a <ℤ pos 33554433 → a ≤ℤ pos (2 ^ 25)
    less a h = omega (arith, ints)

    above : (Y : ℤ) → pos 65536 ≤ℤ Y → pos (2 ^ 40) <ℤ (Y *ℤ pos 33554433)
    above Y h = omega (arith, ints)

-- ---- by naturals
pub at_slip : (e : ℕ) → 65536 ≤ e → pos 0 <ℤ pos e
at_slip e h = omega (arith, ints)

pub from_zero : (y : ℕ) → pos 0 ≤ℤ pos y
from_zero y = omega (arith, ints)

pub up_to : (y e : ℕ) → y < e → pos y ≤ℤ pos e
up_to y e h = omega (arith, ints)

lt_true : (y e : ℕ) → y < e → nat_lt y e ≡ true
lt_true y e h = grind arith

lt_false : (y e : ℕ) → e ≤ y → nat_lt y e ≡ false
lt_false y e h = grind arith

pub length_below : (y e : ℕ) → y < e → smooth_length y e ≡ below_slip (pos y) (pos e)
length_below y e h i = if lt_true y e h i then below_slip (pos y) (pos e) else pos y

pub length_above : (y e : ℕ) → e ≤ y → smooth_length y e ≡ pos y
length_above y e h i = if lt_false y e h i then below_slip (pos y) (pos e) else pos y

pub rate-below-is : (y e : ℕ) → y < e → smooth_rate y e ≡ rate_below (pos y) (pos e)
rate-below-is y e h i = if lt_true y e h i then rate_below (pos y) (pos e) else rate_above (pos y)

pub rate-above-is : (y e : ℕ) → e ≤ y → smooth_rate y e ≡ rate_above (pos y)
rate-above-is y e h i = if lt_false y e h i then rate_below (pos y) (pos e) else rate_above (pos y)

-- no slide has the least length
pub least_length : (y e : ℕ) → 65536 ≤ e → smooth_length 0 e ≤ℤ smooth_length y e
least_length y e h = elim (cases_lt y e) [
  | inl below ↦ rw (length_below 0 e (omega arith), length_below y e below) (below_slip-low (pos y) (pos e) (at_slip e h) (from_zero y) (up_to y e below))
  | inr above ↦ rw (length_below 0 e (omega arith), length_above y e above) (through _ y e (below_slip-high (pos 0) (pos e) (at_slip e h) (from_zero 0) (from_zero e)) above)
]
  where
    through : (a : ℤ) (y e : ℕ) → a ≤ℤ pos e → e ≤ y → a ≤ℤ pos y
    through a y e h k = omega (arith, ints)

-- a bound by another number
pub small_length : (y e : ℕ) → y < e → 65536 ≤ e → e ≤ 2 ^ 26 → unsigned_abs (below_slip (pos y) (pos e)) < 2 ^ 42
small_length y e h k l = small _ e (below_slip-nonneg (pos y) (pos e) (at_slip e k) (from_zero y) (up_to y e h)) (below_slip-high (pos y) (pos e) (at_slip e k) (from_zero y) (up_to y e h)) l
  where
    small : (a : ℤ) (e : ℕ) → pos 0 ≤ℤ a → a ≤ℤ pos e → e ≤ 2 ^ 26 → unsigned_abs a < 2 ^ 42
    small a e h k l = omega (arith, ints)

pub small_rate : (a : ℤ) → pos 0 ≤ℤ a → a ≤ℤ pos (2 ^ 25) → unsigned_abs a < 2 ^ 26
small_rate a h k = omega (arith, ints)

pub wide : (e : ℕ) → 65536 ≤ e → pos 65536 ≤ℤ pos e
wide e h = omega (arith, ints)

-- the rate below the slip
pub record IsRate (rate : ℤ) : Type 0 where
  pub not_negative : pos 0 ≤ℤ rate
  pub bound : rate ≤ℤ pos (2 ^ 25)

pub rate_is : (y e : ℕ) → y < e → 65536 ≤ e → IsRate (smooth_rate y e)
rate_is y e h k =
    subst IsRate (sym (rate-below-is y e h)) (record {
      not_negative = rate_below-nonneg (pos y) (pos e) (at_slip e k) (from_zero y) (up_to y e h);
      bound = rate_below-high (pos y) (pos e) (wide e k) (from_zero y) (up_to y e h);
    })
