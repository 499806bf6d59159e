-- The logarithm against the power.
use Rattle.std.proofs.Common.{◌≡◌, ℕ, zero, suc, ◌+◌, ◌*◌, ◌/◌, ◌^◌, ◌<◌, ◌≤◌, sym, ◌∙◌, ap, subst, arith, inl, inr, mul-le-mul}
use Rattle.std.proofs.Math.Nat.{le_refl, le_of_mul-le-mul_right, pow-suc, pow-zero, two-pow-succ, one-le-pow, lt_of_mul-lt-mul_right}
use Rattle.std.proofs.lemmas.Bool.{cases_lt}
use Rattle.std.proofs.lemmas.Nat.{pow-add, mul-lt, mul-pow, pow_pos}
use Rattle.fixed_log.specs.Logarithm.{lg_bits}
use Rattle.fixed_log.proofs.Bits.{lg_bits-zero, lg_bits-high, lg_bits-low}

-- ---- exponents
root_square : (x n : ℕ) → (x * x) ^ (2 ^ n) ≡ x ^ (2 ^ suc n)
root_square x n = mul-pow x x (2 ^ n) ∙ sym (pow-add x (2 ^ n) (2 ^ n)) ∙ ap (λ (k : ℕ). x ^ k) (sym (two-pow-succ n))

power_one : (x : ℕ) → x ^ (2 ^ 0) ≡ x
power_one x = ap (λ k. x ^ k) (pow-zero 2) ∙ pow-suc x 0 ∙ ap (λ k. k * x) (pow-zero x) ∙ omega arith

odd_place : (e n b : ℕ) → e * 2 ^ suc n + (2 ^ n + b) ≡ (e + e + 1) * 2 ^ n + b
odd_place e n b = rw (two-pow-succ n) (omega arith)

even_place : (e n b : ℕ) → e * 2 ^ suc n + b ≡ (e + e) * 2 ^ n + b
even_place e n b = rw (two-pow-succ n) (omega arith)

odd_power : (e : ℕ) → 2 ^ (e + e + 1) ≡ 2 * (2 ^ e * 2 ^ e)
odd_power e = omega (arith, pow-add 2 (e + e) 1, pow-add 2 e e)

half_of : (z : ℕ) → z / 2 * 2 ≤ z
half_of z = omega arith

no_place : (e b : ℕ) → b ≡ 0 → e * 2 ^ 0 + b ≡ e
no_place e b h = omega (arith, pow-zero 2)

-- ---- from below: y / 2 ^ 61 * 2 ^ e is at most x
square_low : (y e x z c : ℕ) → 0 < c → z * c ≤ y * y → y * 2 ^ e ≤ x * c → z * (2 ^ e * 2 ^ e) ≤ (x * x) * c
square_low y e x z c p h g =
    let a : (y * 2 ^ e) * (y * 2 ^ e) ≤ (x * c) * (x * c) = mul-le-mul g g in
    let b : (z * c) * (2 ^ e * 2 ^ e) ≤ (y * y) * (2 ^ e * 2 ^ e) = mul-le-mul h (le_refl (2 ^ e * 2 ^ e)) in
    let d : (z * (2 ^ e * 2 ^ e)) * c ≤ ((x * x) * c) * c = omega arith in
    le_of_mul-le-mul_right d p

pub lg_low : (n y e x : ℕ) → 2 ^ 61 ≤ y → y * 2 ^ e ≤ x * 2 ^ 61 → 2 ^ (e * 2 ^ n + lg_bits n y) ≤ x ^ (2 ^ n)
lg_low zero y e x h g = rw (no_place e (lg_bits 0 y) (lg_bits-zero y), power_one x) (last (2 ^ 61) (pow_pos 61) h g)
  where
    last : (c : ℕ) → 0 < c → c ≤ y → y * 2 ^ e ≤ x * c → 2 ^ e ≤ x
    last c p h g =
        let a : c * 2 ^ e ≤ y * 2 ^ e = mul-le-mul h (le_refl (2 ^ e)) in
        let d : 2 ^ e * c ≤ x * c = omega arith in
        le_of_mul-le-mul_right d p
lg_low (suc n) y e x h g =
    let z = y * y / 2 ^ 61 in
    let s = square_low y e x z (2 ^ 61) (pow_pos 61) (quotient (y * y)) g in
    elim (cases_lt z (2 ^ 62)) [
      | inl low ↦ rw (lg_bits-low n y low, even_place e n (lg_bits n z), ← root_square x n) (lg_low n z (e + e) (x * x) (above y h) (rw (pow-add 2 e e) s))
      | inr high ↦ rw (lg_bits-high n y high, odd_place e n (lg_bits n (z / 2)), ← root_square x n) (lg_low n (z / 2) (e + e + 1) (x * x) (half_above z high) (halved z e x s))
    ]
  where
    quotient : (a : ℕ) → a / 2 ^ 61 * 2 ^ 61 ≤ a
    quotient a = omega arith

    above : (y : ℕ) → 2 ^ 61 ≤ y → 2 ^ 61 ≤ y * y / 2 ^ 61
    above y h = let a : 2 ^ 61 * 2 ^ 61 ≤ y * y = mul-le-mul h h in omega arith

    half_above : (z : ℕ) → 2 ^ 62 ≤ z → 2 ^ 61 ≤ z / 2
    half_above z h = omega arith

    halved : (z e x : ℕ) → z * (2 ^ e * 2 ^ e) ≤ (x * x) * 2 ^ 61 → z / 2 * 2 ^ (e + e + 1) ≤ (x * x) * 2 ^ 61
    halved z e x h =
        let b : (z / 2 * 2) * (2 ^ e * 2 ^ e) ≤ z * (2 ^ e * 2 ^ e) = mul-le-mul (half_of z) (le_refl (2 ^ e * 2 ^ e)) in
        rw (odd_power e) (omega arith)

-- ---- from above: x is below (y + r) / 2 ^ 61 * 2 ^ e
square_high : (y e x z r c : ℕ) → y < 2 * c → r ≤ c → y * y < z * c + c → x * c < (y + r) * 2 ^ e → (x * x) * c * c < (z * c + c + 5 * (r * c)) * (2 ^ e * 2 ^ e)
square_high y e x z r c hy hr hz h =
    let g = 2 ^ e in
    let a : (x * c) * (x * c) < ((y + r) * g) * ((y + r) * g) = mul-lt (x * c) (x * c) ((y + r) * g) ((y + r) * g) h h in
    let b : y * r ≤ (2 * c) * r = mul-le-mul (weak y (2 * c) hy) (le_refl r) in
    let d : r * r ≤ c * r = mul-le-mul hr (le_refl r) in
    let f : (y + r) * (y + r) ≤ z * c + c + 5 * (r * c) = omega arith in
    let p : ((y + r) * (y + r)) * (g * g) ≤ (z * c + c + 5 * (r * c)) * (g * g) = mul-le-mul f (le_refl (g * g)) in
    omega arith
  where
    weak : (a b : ℕ) → a < b → a ≤ b
    weak a b h = omega arith

low_enough : (r p m : ℕ) → 0 < p → (2 * r + 1) * p ≤ m → r ≤ m
low_enough r p m h k = let a : r * 1 ≤ r * p = mul-le-mul (le_refl r) h in omega (arith, a)

five_pos : (n : ℕ) → 0 < 5 ^ n
five_pos n = one-le-pow n 5 (omega arith)

smaller : (y e x r z : ℕ) → y < 2 ^ 62 → r ≤ 2 ^ 61 → y * y < z * 2 ^ 61 + 2 ^ 61 → x * 2 ^ 61 < (y + r) * 2 ^ e → (x * x) * 2 ^ 61 < (z + 1 + 5 * r) * (2 ^ e * 2 ^ e)
smaller y e x r z hy hr hz h = cancel (2 ^ 61) (2 ^ e * 2 ^ e) (square_high y e x z r (2 ^ 61) (omega arith) hr hz h)
  where
    cancel : (c g : ℕ) → (x * x) * c * c < (z * c + c + 5 * (r * c)) * g → (x * x) * c < (z + 1 + 5 * r) * g
    cancel c g h = let k : (x * x) * c * c < (z + 1 + 5 * r) * g * c = omega arith in lt_of_mul-lt-mul_right c k

stays : (a z r g : ℕ) → a < (z + 1 + 5 * r) * g → a < (z + (5 * r + 2)) * g
stays a z r g h = omega arith

halves : (a z r g : ℕ) → a < (z + 1 + 5 * r) * g → a < (z / 2 + (5 * r + 2)) * (2 * g)
halves a z r g h =
    let k : z * g ≤ (2 * (z / 2) + 1) * g = mul-le-mul (split z) (le_refl g) in
    omega arith
  where
    split : (z : ℕ) → z ≤ 2 * (z / 2) + 1
    split z = omega arith

half_below : (y : ℕ) → y < 2 ^ 62 → y * y / 2 ^ 61 / 2 < 2 ^ 62
half_below y h = let a : y * y < 2 ^ 62 * 2 ^ 62 = mul-lt y y (2 ^ 62) (2 ^ 62) h h in omega arith

at_end : (y r x g : ℕ) → y < 2 ^ 62 → r ≤ 2 ^ 60 → x * 2 ^ 61 < (y + r) * g → x < 4 * g
at_end y r x g hy hr h = by_size (2 ^ 61) (omega arith) h
  where
    by_size : (c : ℕ) → y + r ≤ 4 * c → x * c < (y + r) * g → x < 4 * g
    by_size c k h =
        let a : (y + r) * g ≤ (4 * c) * g = mul-le-mul k (le_refl g) in
        let b : x * c < 4 * g * c = omega arith in
        lt_of_mul-lt-mul_right c b

pub lg_high : (n y e x r : ℕ) → y < 2 ^ 62 → (2 * r + 1) * 5 ^ n ≤ 2 ^ 59 → x * 2 ^ 61 < (y + r) * 2 ^ e → x ^ (2 ^ n) < 2 ^ (e * 2 ^ n + lg_bits n y + 2)
lg_high zero y e x r h k g =
    let four : 4 * 2 ^ e ≡ 2 ^ (e + 2) = omega (arith, pow-add 2 e 2) in
    rw (no_place e (lg_bits 0 y) (lg_bits-zero y), power_one x) (subst (λ b. x < b) four (at_end y r x (2 ^ e) h (omega (arith, low_enough r (5 ^ 0) (2 ^ 59) (five_pos 0) k)) g))
lg_high (suc n) y e x r h k g =
    let z = y * y / 2 ^ 61 in
    let s = smaller y e x r z h (omega (arith, low_enough r (5 ^ suc n) (2 ^ 59) (five_pos (suc n)) k)) (quotient (y * y)) g in
    elim (cases_lt z (2 ^ 62)) [
      | inl low ↦ rw (lg_bits-low n y low, even_place e n (lg_bits n z), ← root_square x n)
          (lg_high n z (e + e) (x * x) (5 * r + 2) low (rounded n r k) (rw (pow-add 2 e e) (stays ((x * x) * 2 ^ 61) z r (2 ^ e * 2 ^ e) s)))
      | inr high ↦ rw (lg_bits-high n y high, odd_place e n (lg_bits n (z / 2)), ← root_square x n)
          (lg_high n (z / 2) (e + e + 1) (x * x) (5 * r + 2) (half_below y h) (rounded n r k) (rw (odd_power e) (halves ((x * x) * 2 ^ 61) z r (2 ^ e * 2 ^ e) s)))
    ]
  where
    quotient : (a : ℕ) → a < a / 2 ^ 61 * 2 ^ 61 + 2 ^ 61
    quotient a = omega arith

    rounded : (n r : ℕ) → (2 * r + 1) * 5 ^ suc n ≤ 2 ^ 59 → (2 * (5 * r + 2) + 1) * 5 ^ n ≤ 2 ^ 59
    rounded n r h = omega (arith, ap (λ p. (2 * r + 1) * p) (pow-suc 5 n))
