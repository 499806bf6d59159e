-- The digits of a fraction, one after another.
use Rattle.std.proofs.Common.{◌≡◌, ℕ, zero, suc, ◌+◌, ◌-◌, ◌*◌, ◌/◌, ◌%◌, ◌^◌, ◌<◌, ◌≤◌, false, eqb, List, [], ◌∷◌, ◌++◌, length, refl, sym, ◌∙◌, ap, subst, arith}
use Rattle.std.proofs.Math.Nat.{pow-suc, pow-zero, mod-lt, div-add-mod'}
use Rattle.std.proofs.lemmas.Bool.Decides.{nat_tests}
use Rattle.std.proofs.lemmas.Nat.{pow-add, div_below}
use Rattle.std.proofs.lemmas.Str.{digit_value_digit}
use Rattle.std.specs.Char.{digit_value}
use Rattle.std.specs.Str.Parse.{AllDigits, digits_value}
use Rattle.dec_text.proofs.Digits.{digits_value-cons, ten_pos}
use Rattle.dec_text.specs.GridText.{fraction_digits}

pub fraction_digits-none : (digits : ℕ) → fraction_digits digits 0 ≡ []
unfolding fraction_digits
fraction_digits-none zero = refl
fraction_digits-none (suc digits) = refl

pub fraction_digits-suc : (digits rest : ℕ) → 0 < rest → fraction_digits (suc digits) rest ≡ (48 + rest / 10 ^ digits) ∷ fraction_digits digits (rest % 10 ^ digits)
unfolding fraction_digits
fraction_digits-suc digits rest h = let t : eqb rest 0 ≡ false = grind (arith, nat_tests) in rw t refl

pub fraction_digits-more : (digits rest : ℕ) → 0 < rest → rest < 10 ^ digits → fraction_digits digits rest ≡ (48 + rest / 10 ^ (digits - 1)) ∷ fraction_digits (digits - 1) (rest % 10 ^ (digits - 1))
fraction_digits-more zero rest h k = absurd (omega (arith, pow-zero 10))
fraction_digits-more (suc digits) rest h k = let e : suc digits - 1 ≡ digits = omega arith in rw e (fraction_digits-suc digits rest h)

-- a number above 0 below a power of ten has a place
pub ten_times_more : (digits rest : ℕ) → 0 < rest → rest < 10 ^ digits → 10 ^ digits ≡ 10 * 10 ^ (digits - 1)
ten_times_more zero rest h k = absurd (omega (arith, pow-zero 10))
ten_times_more (suc digits) rest h k = let e : suc digits - 1 ≡ digits = omega arith in rw e (omega (arith, pow-suc 10 digits))

-- ---- the fraction's digits are digits, and worth the fraction
pub record IsFraction (digits rest : ℕ) (f : List ℕ) : Type 0 where
  pub are_digits : AllDigits 10 f
  pub short : length f ≤ digits
  pub worth : digits_value 10 f * 10 ^ (digits - length f) ≡ rest

first_digit : (g d rest : ℕ) (f : List ℕ) → g < 10 → rest ≡ g * 10 ^ d + rest % 10 ^ d → IsFraction d (rest % 10 ^ d) f → IsFraction (suc d) rest ((48 + g) ∷ f)
first_digit g d rest f l e h =
    let range : digit_value (48 + g) + 48 ≡ 48 + g = digit_value_digit (48 + g) (omega arith, omega arith) in
    let value : digit_value (48 + g) ≡ g = omega arith in
    let power : 10 ^ length f * 10 ^ (d - length f) ≡ 10 ^ d = sym (pow-add 10 (length f) (d - length f)) ∙ ap (λ k. 10 ^ k) (rejoined (length f) d h.short) in
    let gap : suc d - suc (length f) ≡ d - length f = omega arith in
    record {
      are_digits = (subst (λ n. n < 10) (sym value) l, h.are_digits);
      short = omega (arith, h.short);
      worth = rw (gap, digits_value-cons, value) (shifted (10 ^ length f) (10 ^ (d - length f)) (10 ^ d) g (digits_value 10 f) (rest % 10 ^ d) power h.worth ∙ sym e);
    }
  where
    rejoined : (a b : ℕ) → a ≤ b → a + (b - a) ≡ b
    rejoined a b h = omega arith

    shifted : (a b p g v r : ℕ) → a * b ≡ p → v * b ≡ r → (g * a + v) * b ≡ g * p + r
    shifted a b p g v r e f = omega (arith, ap (λ x. g * x) e)

pub fraction_digits-is : (digits rest : ℕ) → rest < 10 ^ digits → IsFraction digits rest (fraction_digits digits rest)
fraction_digits-is zero rest h =
    let e : rest ≡ 0 = omega (arith, pow-zero 10) in
    rw (e, fraction_digits-none zero) (record { are_digits = tt; short = omega arith; worth = omega arith })
fraction_digits-is (suc d) zero h = rw (fraction_digits-none (suc d)) (record { are_digits = tt; short = omega arith; worth = omega arith })
fraction_digits-is (suc d) (suc n) h =
    let rest = suc n in
    let below : rest / 10 ^ d < 10 = div_below rest (10 ^ d) 10 (ten_pos d) (omega (arith, pow-suc 10 d)) in
    rw (fraction_digits-suc d rest (omega arith))
    (first_digit (rest / 10 ^ d) d rest (fraction_digits d (rest % 10 ^ d)) below (sym (div-add-mod' rest (10 ^ d))) (fraction_digits-is d (rest % 10 ^ d) (mod-lt rest (ten_pos d))))

-- ---- the last of them isn't 0
fraction_digits-some : (digits rest : ℕ) → rest < 10 ^ digits → 0 < rest → fraction_digits digits rest ≡ [] → ⊥
fraction_digits-some digits rest h k e = let more = sym (fraction_digits-more digits rest k h) ∙ e in cc

no_zero_behind : (d rest : ℕ) (front : List ℕ) → 0 < rest → rest < 10 ^ suc d
    → ((front : List ℕ) → fraction_digits d (rest % 10 ^ d) ≡ front ++ 48 ∷ [] → ⊥)
    → fraction_digits (suc d) rest ≡ front ++ 48 ∷ [] → ⊥
no_zero_behind d rest [] some h later e =
    let both : (48 + rest / 10 ^ d) ∷ fraction_digits d (rest % 10 ^ d) ≡ 48 ∷ [] = sym (fraction_digits-suc d rest some) ∙ e in
    let none : fraction_digits d (rest % 10 ^ d) ≡ [] = tails both in
    let zero_first : rest / 10 ^ d ≡ 0 = omega (arith, heads both) in
    let split : rest / 10 ^ d * 10 ^ d + rest % 10 ^ d ≡ rest = div-add-mod' rest (10 ^ d) in
    let left : 0 < rest % 10 ^ d = above rest (rest / 10 ^ d) (10 ^ d) (rest % 10 ^ d) some zero_first split in
    fraction_digits-some d (rest % 10 ^ d) (mod-lt rest (ten_pos d)) left none
  where
    heads : {x y : ℕ} {xs ys : List ℕ} → x ∷ xs ≡ y ∷ ys → x ≡ y
    heads e = cc

    tails : {x y : ℕ} {xs ys : List ℕ} → x ∷ xs ≡ y ∷ ys → xs ≡ ys
    tails e = cc

    above : (n q p r : ℕ) → 0 < n → q ≡ 0 → q * p + r ≡ n → 0 < r
    above n q p r h e s = let none : 0 * p ≡ 0 = omega arith in omega (arith, ap (λ x. x * p) e)
no_zero_behind d rest (x ∷ front) some h later e = later front (tails (sym (fraction_digits-suc d rest some) ∙ e))
  where
    tails : {x y : ℕ} {xs ys : List ℕ} → x ∷ xs ≡ y ∷ ys → xs ≡ ys
    tails e = cc

nothing_ends : (front : List ℕ) → [] ≡ front ++ 48 ∷ [] → ⊥
nothing_ends [] e = cc
nothing_ends (x ∷ front) e = cc

pub no_last_zero : (digits rest : ℕ) → rest < 10 ^ digits → (front : List ℕ) → fraction_digits digits rest ≡ front ++ 48 ∷ [] → ⊥
no_last_zero zero rest h front e =
    let none : rest ≡ 0 = omega (arith, pow-zero 10) in
    nothing_ends front (sym (fraction_digits-none zero) ∙ ap (λ r. fraction_digits zero r) (sym none) ∙ e)
no_last_zero (suc d) zero h front e = nothing_ends front (sym (fraction_digits-none (suc d)) ∙ e)
no_last_zero (suc d) (suc n) h front e =
    no_zero_behind d (suc n) front (omega arith) h (no_last_zero d (suc n % 10 ^ d) (mod-lt (suc n) (ten_pos d))) e
