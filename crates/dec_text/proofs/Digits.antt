-- The number that digits write: joined, cut in two, and against nothing and a half.
use Rattle.std.proofs.Common.{◌≡◌, ℕ, zero, suc, ◌+◌, ◌*◌, ◌^◌, ◌<◌, ◌≤◌, Bool, true, false, leb, ltb, eqb, ◌||◌, not, List, [], ◌∷◌, ◌++◌, length, take, drop, refl, sym, ◌∙◌, ap, arith, mul-le-mul, inl, inr}
use Rattle.std.proofs.Math.Nat.{pow-suc, le_refl}
use Rattle.std.proofs.lemmas.Int.Digits.{digits_value-lt}
use Rattle.std.proofs.lemmas.Bool.{cases_lt, lt-ltb}
use Rattle.std.proofs.lemmas.Bool.Decides.{nat_tests}
use Rattle.std.proofs.lemmas.Str.Parse.{digit_from_value}
use Rattle.std.specs.Char.{digit_value}
use Rattle.std.specs.List.{list_any}
use Rattle.std.specs.Str.Parse.{AllDigits, digits_value, digits_value_after}
use Rattle.std.proofs.lemmas.Str.{digit_value_digit}

pub digits_value_after-is : (n : ℕ) (ds : List ℕ) → digits_value_after 10 n ds ≡ n * 10 ^ length ds + digits_value 10 ds
digits_value_after-is n [] = omega arith
digits_value_after-is n (c ∷ cs) =
    let a = digits_value_after-is (n * 10 + digit_value c) cs in
    let b = digits_value_after-is (0 * 10 + digit_value c) cs in
    omega (arith, ap (λ x. n * x) (pow-suc 10 (length cs)))

pub digits_value-cons : (c : ℕ) (cs : List ℕ) → digits_value 10 (c ∷ cs) ≡ digit_value c * 10 ^ length cs + digits_value 10 cs
digits_value-cons c cs = omega (arith, digits_value_after-is (0 * 10 + digit_value c) cs)

after-append : (n : ℕ) (xs ys : List ℕ) → digits_value_after 10 n (xs ++ ys) ≡ digits_value_after 10 (digits_value_after 10 n xs) ys
after-append n [] ys = refl
after-append n (x ∷ xs) ys = after-append (n * 10 + digit_value x) xs ys

pub digits_value-append : (xs ys : List ℕ) → digits_value 10 (xs ++ ys) ≡ digits_value 10 xs * 10 ^ length ys + digits_value 10 ys
digits_value-append xs ys = after-append 0 xs ys ∙ digits_value_after-is (digits_value 10 xs) ys

-- ---- parts of digits are digits
pub AllDigits-append : (xs ys : List ℕ) → AllDigits 10 xs → AllDigits 10 ys → AllDigits 10 (xs ++ ys)
AllDigits-append [] ys h k = k
AllDigits-append (x ∷ xs) ys h k = (h.0, AllDigits-append xs ys h.1 k)

pub AllDigits-take : (n : ℕ) (xs : List ℕ) → AllDigits 10 xs → AllDigits 10 (take n xs)
AllDigits-take zero xs h = tt
AllDigits-take (suc n) [] h = tt
AllDigits-take (suc n) (x ∷ xs) h = (h.0, AllDigits-take n xs h.1)

pub AllDigits-drop : (n : ℕ) (xs : List ℕ) → AllDigits 10 xs → AllDigits 10 (drop n xs)
AllDigits-drop zero xs h = h
AllDigits-drop (suc n) [] h = tt
AllDigits-drop (suc n) (x ∷ xs) h = AllDigits-drop n xs h.1

pub ten_pos : (n : ℕ) → 0 < 10 ^ n
ten_pos zero = omega arith
ten_pos (suc n) = omega (arith, ten_pos n, pow-suc 10 n)

-- ---- digits are worth something where one of them isn't 0
digit_is : (c : ℕ) → digit_value c < 10 → digit_value c + 48 ≡ c
digit_is c h = digit_value_digit c (digit_from_value c h)

pub list_any-digits : (ds : List ℕ) → AllDigits 10 ds → list_any (λ c. not (eqb c 48)) ds ≡ ltb 0 (digits_value 10 ds)
list_any-digits [] h = refl
list_any-digits (c ∷ cs) h =
    rw digits_value-cons (first (digit_value c) c (10 ^ length cs) (digits_value 10 cs) (list_any (λ c. not (eqb c 48)) cs) (digit_is c h.0) (ten_pos (length cs)) (list_any-digits cs h.1))
  where
    first : (d c p v : ℕ) (r : Bool) → d + 48 ≡ c → 0 < p → r ≡ ltb 0 v → (not (eqb c 48) || r) ≡ ltb 0 (d * p + v)
    first zero c p v r e h k =
        let t : eqb c 48 ≡ true = grind (arith, nat_tests) in
        let z : 0 * p + v ≡ v = omega arith in
        rw (t, z) k
    first (suc d) c p v r e h k =
        let t : eqb c 48 ≡ false = grind (arith, nat_tests) in
        rw t (sym (lt-ltb 0 (suc d * p + v) (omega arith)))

-- ---- digits are worth half of the next power of ten where the first of them is 5 or more
pub leb-half : (c : ℕ) (cs : List ℕ) → AllDigits 10 (c ∷ cs) → leb (10 ^ length (c ∷ cs)) (2 * digits_value 10 (c ∷ cs)) ≡ leb 53 c
leb-half c cs h = rw (digits_value-cons, pow-suc 10 (length cs)) (by_first (digit_value c) c (10 ^ length cs) (digits_value 10 cs) (digit_is c h.0) (digits_value-lt 10 cs h.1))
  where
    at_most_four : (d : ℕ) → d < 5 → d ≤ 4
    at_most_four d h = omega arith

    le_tests_false : (a b c d : ℕ) → b < a → d < c → leb a b ≡ leb c d
    le_tests_false a b c d h k = grind (arith, nat_tests)

    le_tests_true : (a b c d : ℕ) → a ≤ b → c ≤ d → leb a b ≡ leb c d
    le_tests_true a b c d h k = grind (arith, nat_tests)

    by_first : (d c p v : ℕ) → d + 48 ≡ c → v < p → leb (p * 10) (2 * (d * p + v)) ≡ leb 53 c
    by_first d c p v e h = elim (cases_lt d 5) [
      | inl low ↦ let below : d * p ≤ 4 * p = mul-le-mul (at_most_four d low) (le_refl p) in
          le_tests_false (p * 10) (2 * (d * p + v)) 53 c (omega arith) (omega arith)
      | inr high ↦ let above : 5 * p ≤ d * p = mul-le-mul high (le_refl p) in
          le_tests_true (p * 10) (2 * (d * p + v)) 53 c (omega arith) (omega arith)
    ]
