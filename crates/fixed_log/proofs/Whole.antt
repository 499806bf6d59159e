-- The whole part and what is left of the number.
use Rattle.std.proofs.Common.{◌≡◌, ℕ, suc, ◌+◌, ◌-◌, ◌*◌, ◌/◌, ◌^◌, ◌<◌, ◌≤◌, true, false, leb, refl, sym, ◌∙◌, ap, subst, arith, inl, inr, mul-le-mul, lit≤}
use Rattle.std.proofs.Math.Nat.{le_refl, pow-le-pow_right, div-mul-le_self, lt-div-mul-add}
use Rattle.std.proofs.lemmas.Bool.{cases_lt}
use Rattle.std.proofs.lemmas.Bool.Decides.{nat_tests}
use Rattle.std.proofs.lemmas.Nat.{leading_top, pow-add, pow_pos, le-div, div_below}
use Rattle.std.specs.Int.{leading_zeros, w128}
use Rattle.fixed_log.specs.Logarithm.{lg_bits, whole_lg, mantissa, lg_of, great_power}
use Rattle.fixed_log.proofs.Monotone.{lg_bits-lt, lg_bits-up}
use Rattle.fixed_log.proofs.Power.{lg_low, lg_high}

pub record IsWhole (m k : ℕ) : Type 0 where
  pub power : 2 ^ k ≤ m
  pub next : m < 2 ^ (k + 1)
  pub small : k < 68

pub whole_lg-is : (m : ℕ) → 1 ≤ m → m < 2 ^ 68 → IsWhole m (whole_lg m)
unfolding whole_lg
whole_lg-is m h k = by_top (leading_zeros w128 m) (leading_top 128 m h (omega arith))
  where
    power_up : (i j : ℕ) → i ≤ j → 2 ^ i ≤ 2 ^ j
    power_up i j h = pow-le-pow_right {n = 2} (omega arith) {i = i} {j = j} h

    small : (j : ℕ) → 2 ^ j ≤ m → j < 68
    small j p = elim (cases_lt j 68) [ inl low ↦ low | inr high ↦ absurd (omega (arith, power_up 68 j high)) ]

    by_top : (z : ℕ) → (j : ℕ) × (z + suc j ≡ 128) × (2 ^ j ≤ m) × (m < 2 ^ suc j) → IsWhole m (127 - z)
    by_top z t =
        let e : 127 - z ≡ t.0 = omega (arith, t.1) in
        let next : suc t.0 ≡ t.0 + 1 = omega arith in
        rw e (record { power = t.2; next = subst (λ i. m < 2 ^ i) next t.3; small = small t.0 t.2 })

-- y is m / 2 ^ k with 61 bits behind the point
pub record IsMantissa (m k y : ℕ) : Type 0 where
  pub one : 2 ^ 61 ≤ y
  pub below_two : y < 2 ^ 62
  pub low : y * 2 ^ k ≤ m * 2 ^ 61
  pub high : m * 2 ^ 61 < (y + 1) * 2 ^ k

less_times : (a b p : ℕ) → 0 < p → a < b → a * p < b * p
less_times a b p h k = omega (arith, mul-le-mul k (le_refl p))

pub mantissa-is : (m k : ℕ) → IsWhole m k → IsMantissa m k (mantissa m k)
mantissa-is m k h = elim (cases_lt 61 k) [
  | inl past ↦
      let t : leb k 61 ≡ false = grind (arith, nat_tests) in
      rw t (shrunk (2 ^ (k - 61)) (pow_pos (k - 61)) (product_of_powers (k - 61) 61 k (omega arith)) (next h.next))
  | inr within ↦
      let t : leb k 61 ≡ true = grind (arith, nat_tests) in
      rw t (grown (2 ^ (61 - k)) (pow_pos (61 - k)) (product_of_powers (61 - k) k 61 (omega arith)) (next h.next))
]
  where
    product_of_powers : (a b n : ℕ) → a + b ≡ n → 2 ^ a * 2 ^ b ≡ 2 ^ n
    product_of_powers a b n e = sym (pow-add 2 a b) ∙ ap (λ i. 2 ^ i) e

    next : m < 2 ^ (k + 1) → m < 2 * 2 ^ k
    next h = omega (arith, pow-add 2 k 1)

    grown : (p : ℕ) → 0 < p → p * 2 ^ k ≡ 2 ^ 61 → m < 2 * 2 ^ k → IsMantissa m k (m * p)
    grown p hp e r =
        let a : p * 2 ^ k ≤ p * m = mul-le-mul (le_refl p) h.power in
        let b : m * p < 2 * 2 ^ k * p = less_times m (2 * 2 ^ k) p hp r in
        let c : m * p * 2 ^ k ≡ m * 2 ^ 61 = omega (arith, ap (λ x. m * x) e) in
        record { one = omega arith; below_two = omega arith; low = omega arith; high = omega (arith, pow_pos k) }

    shrunk : (p : ℕ) → 0 < p → p * 2 ^ 61 ≡ 2 ^ k → m < 2 * 2 ^ k → IsMantissa m k (m / p)
    shrunk p hp e r =
        let y = m / p in
        let low : y * p ≤ m = div-mul-le_self m p in
        let high : m < y * p + p = lt-div-mul-add hp in
        let c : y * p * 2 ^ 61 ≡ y * 2 ^ k = omega (arith, ap (λ x. y * x) e) in
        record {
          one = le-div (2 ^ 61) m p hp (omega (arith, h.power));
          below_two = div_below m p (2 ^ 62) hp (omega arith);
          low = omega (arith, mul-le-mul low (le_refl (2 ^ 61)));
          high = omega (arith, less_times m (y * p + p) (2 ^ 61) (pow_pos 61) high);
        }

-- ---- the logarithm's parts
pub lg_of-is : (m : ℕ) → lg_of m ≡ whole_lg m * 2 ^ 24 + lg_bits 24 (mantissa m (whole_lg m))
unfolding lg_of
lg_of-is m = refl

pub lg_of-lt : (m : ℕ) → 1 ≤ m → m < 2 ^ 68 → lg_of m < 68 * 2 ^ 24
lg_of-lt m h k =
    let w = whole_lg-is m h k in
    omega (arith, lg_of-is m, w.small, lg_bits-lt 24 (mantissa m (whole_lg m)))

-- ---- the mantissa of a greater number with the same whole part
mantissa-up : (a b k : ℕ) → a ≤ b → mantissa a k ≤ mantissa b k
mantissa-up a b k h = elim (cases_lt 61 k) [
  | inl past ↦
      let t : leb k 61 ≡ false = grind (arith, nat_tests) in
      rw t (below (2 ^ (k - 61)) (pow_pos (k - 61)))
  | inr within ↦
      let t : leb k 61 ≡ true = grind (arith, nat_tests) in
      rw t (mul-le-mul h (le_refl (2 ^ (61 - k))))
]
  where
    below : (p : ℕ) → 0 < p → a / p ≤ b / p
    below p q = le-div (a / p) b p q (omega (arith, div-mul-le_self a p))

pub lg_of-up : (a b : ℕ) → 1 ≤ a → a ≤ b → b < 2 ^ 68 → lg_of a ≤ lg_of b
lg_of-up a b h up k =
    let v = whole_lg-is a h (omega arith) in
    let w = whole_lg-is b (omega arith) k in
    elim (cases_lt (whole_lg a) (whole_lg b)) [
      | inl less ↦ omega (arith, lg_of-is a, lg_of-is b, lg_bits-lt 24 (mantissa a (whole_lg a)), less)
      | inr more ↦
          let same : whole_lg b ≡ whole_lg a = equal (whole_lg a) (whole_lg b) more v w in
          let bits : lg_bits 24 (mantissa a (whole_lg a)) ≤ lg_bits 24 (mantissa b (whole_lg b)) =
          rw same (lg_bits-up 24 (mantissa a (whole_lg a)) (mantissa b (whole_lg a)) (mantissa-up a b (whole_lg a) up)) in
          omega (arith, lg_of-is a, lg_of-is b, bits, same)
    ]
  where
    power_up : (i j : ℕ) → i ≤ j → 2 ^ i ≤ 2 ^ j
    power_up i j h = pow-le-pow_right {n = 2} (omega arith) {i = i} {j = j} h

    equal : (i j : ℕ) → j ≤ i → IsWhole a i → IsWhole b j → j ≡ i
    equal i j le v w = elim (cases_lt j i) [
      | inl less ↦ absurd (omega (arith, power_up (j + 1) i (omega arith), v.power, w.next))
      | inr same ↦ omega arith
    ]

-- ---- the logarithm against the power
pub great_power-low : (m : ℕ) → 1 ≤ m → m < 2 ^ 68 → 2 ^ lg_of m ≤ great_power m
unfolding great_power
great_power-low m h k =
    let whole = whole_lg m in
    let y = mantissa-is m whole (whole_lg-is m h k) in
    rw (lg_of-is m) (lg_low 24 (mantissa m whole) whole m y.one y.low)

pub great_power-high : (m : ℕ) → 1 ≤ m → m < 2 ^ 68 → great_power m < 2 ^ (lg_of m + 2)
unfolding great_power
great_power-high m h k =
    let whole = whole_lg m in
    let y = mantissa-is m whole (whole_lg-is m h k) in
    rw (lg_of-is m) (lg_high 24 (mantissa m whole) whole m 1 y.below_two (lit≤ tt) y.high)

pub mantissa-within : (m k : ℕ) → k ≤ 61 → mantissa m k ≡ m * 2 ^ (61 - k)
mantissa-within m k h = let t : leb k 61 ≡ true = grind (arith, nat_tests) in rw t refl

pub mantissa-past : (m k : ℕ) → 61 < k → mantissa m k ≡ m / 2 ^ (k - 61)
mantissa-past m k h = let t : leb k 61 ≡ false = grind (arith, nat_tests) in rw t refl
