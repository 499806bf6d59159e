-- What is known of a quotient, where its parts are scaled by powers of ten.
use Rattle.std.proofs.Common.{◌≡◌, ℕ, zero, suc, ◌+◌, ◌-◌, ◌*◌, ◌/◌, ◌%◌, ◌^◌, ◌<◌, ◌≤◌, min, true, false, cond, leb, ltb, refl, sym, ◌∙◌, ap, subst, arith, mul-le-mul, inl, inr, List, ◌∷◌, length, get_or, take, drop, length-drop}
use Rattle.std.proofs.Math.Nat.{le_refl, mod-lt, div-add-mod', div-eq_of_lt, mod-eq_of_lt}
use Rattle.std.proofs.lemmas.Nat.{pow-add, div-mul-add, mod-mul-add}
use Rattle.std.proofs.lemmas.Bool.{cases_lt}
use Rattle.std.proofs.lemmas.Bool.Decides.{nat_tests}
use Rattle.dec_text.specs.declared.quotient.Quotient.{Quotient}
use Rattle.dec_text.specs.Calls.Quotient.{IsQuotient}
use Rattle.std.proofs.lemmas.Int.Digits.{digits_value-lt}
use Rattle.std.proofs.lemmas.List.{take-append-drop, drop_more}
use Rattle.std.specs.Str.Parse.{AllDigits, digits_value}
use Rattle.dec_text.proofs.Digits.{ten_pos, digits_value-append, AllDigits-drop, leb-half}

-- ---- numbers cut off at the greatest `u64`
pub saturated_step : (s x p d v : ℕ) → v ≡ min (s * p + x) (2 ^ 64 - 1) → min (min (v * 10) (2 ^ 64 - 1) + d) (2 ^ 64 - 1) ≡ min (s * (p * 10) + (x * 10 + d)) (2 ^ 64 - 1)
saturated_step s x p d v e = omega arith

pub saturated_more : (n p : ℕ) → min (min (n * p) (2 ^ 64 - 1) * 10) (2 ^ 64 - 1) ≡ min (n * (p * 10)) (2 ^ 64 - 1)
saturated_more n p = omega arith

times_at_least : (s p m : ℕ) → 0 < p → m ≤ s → m ≤ s * p
times_at_least s p m h k = omega (arith, mul-le-mul k h)

pub saturated_join : (s p y : ℕ) → 0 < p → min (min s (2 ^ 64 - 1) * p + y) (2 ^ 64 - 1) ≡ min (s * p + y) (2 ^ 64 - 1)
saturated_join s p y h = elim (cases_lt s (2 ^ 64 - 1)) [
  | inl low ↦ let e : min s (2 ^ 64 - 1) ≡ s = omega arith in rw e refl
  | inr high ↦ let e : min s (2 ^ 64 - 1) ≡ 2 ^ 64 - 1 = omega arith in
      rw e (omega (arith, times_at_least s p (2 ^ 64 - 1) h high, times_at_least (2 ^ 64 - 1) p (2 ^ 64 - 1) h (le_refl (2 ^ 64 - 1))))
]

-- ---- a cut from the quotient and the rest, and back
pub quotient_from : (n d q r : ℕ) (c : Quotient) → n ≡ q * d + r → r < d → c.whole ≡ min q (2 ^ 64 - 1) → c.is_half ≡ leb d (2 * r) → c.has_rest ≡ ltb 0 r → IsQuotient n d c
quotient_from n d q r c e h w i j =
    let quotient : n / d ≡ q = ap (λ m. m / d) e ∙ div-mul-add q d r h in
    let rest : n % d ≡ r = ap (λ m. m % d) e ∙ mod-mul-add q d r h in
    record { whole = rw quotient w; is_half = rw rest i; has_rest = rw rest j }

-- the same cut of another fraction
pub same_quotient : (n d m b : ℕ) (c : Quotient) → min (n / d) (2 ^ 64 - 1) ≡ min (m / b) (2 ^ 64 - 1) → leb d (2 * (n % d)) ≡ leb b (2 * (m % b)) → ltb 0 (n % d) ≡ ltb 0 (m % b) → IsQuotient n d c → IsQuotient m b c
same_quotient n d m b c w i j h = record { whole = h.whole ∙ w; is_half = h.is_half ∙ i; has_rest = h.has_rest ∙ j }

-- ---- both sides of the fraction times a power of ten
leb-mul : (a b p : ℕ) → 0 < p → leb (a * p) (b * p) ≡ leb a b
leb-mul a b p h = elim (cases_lt b a) [
  | inl below ↦ let k : b * p + p ≤ a * p = omega (arith, mul-le-mul below (le_refl p)) in grind (arith, nat_tests)
  | inr above ↦ let k : a * p ≤ b * p = mul-le-mul above (le_refl p) in grind (arith, nat_tests)
]

pub multiplied_quotient : (n d p : ℕ) (c : Quotient) → 0 < d → 0 < p → IsQuotient n d c → IsQuotient (n * p) (d * p) c
multiplied_quotient n d p c hd hp h =
    let q = n / d in
    let r = n % d in
    let split : q * d + r ≡ n = div-add-mod' n d in
    let below : r < d = mod-lt n hd in
    quotient_from (n * p) (d * p) q (r * p) c (whole_is q d r p n split) (rest_below r d p hp below) h.whole
    (h.is_half ∙ sym (leb-mul d (2 * r) p hp) ∙ ap (λ x. leb (d * p) x) (twice r p)) (h.has_rest ∙ no_rest r p hp)
  where
    whole_is : (q d r p n : ℕ) → q * d + r ≡ n → n * p ≡ q * (d * p) + r * p
    whole_is q d r p n e = omega (arith, ap (λ x. x * p) e)

    rest_below : (r d p : ℕ) → 0 < p → r < d → r * p < d * p
    rest_below r d p h k = omega (arith, mul-le-mul k (le_refl p))

    twice : (r p : ℕ) → 2 * r * p ≡ 2 * (r * p)
    twice r p = omega arith

    no_rest : (r p : ℕ) → 0 < p → ltb 0 r ≡ ltb 0 (r * p)
    no_rest zero p h = let e : 0 * p ≡ 0 = omega arith in rw e refl
    no_rest (suc r) p h = let k : 0 < suc r * p = omega arith in grind (arith, nat_tests)

-- ---- twenty zeros or more behind a number
twenty_fill : (n p : ℕ) → 10 ^ 20 ≤ p → min (n * p) (2 ^ 64 - 1) ≡ min (n * 10 ^ 20) (2 ^ 64 - 1)
twenty_fill zero p h = let e : 0 * p ≡ 0 = omega arith in rw e refl
twenty_fill (suc n) p h =
    let a : 1 * p ≤ suc n * p = mul-le-mul (one_le n) (le_refl p) in
    omega arith
  where
    one_le : (n : ℕ) → 1 ≤ suc n
    one_le n = omega arith

ten_above : (i j : ℕ) → i ≤ j → 10 ^ i ≤ 10 ^ j
ten_above i j h =
    let e : i + (j - i) ≡ j = omega arith in
    let k : 10 ^ j ≡ 10 ^ i * 10 ^ (j - i) = ap (λ x. 10 ^ x) (sym e) ∙ pow-add 10 i (j - i) in
    omega (arith, times_at_least (10 ^ i) (10 ^ (j - i)) (10 ^ i) (ten_pos (j - i)) (le_refl (10 ^ i)))

pub many_zeros : (n i j : ℕ) → 20 ≤ i → 20 ≤ j → min (n * 10 ^ i) (2 ^ 64 - 1) ≡ min (n * 10 ^ j) (2 ^ 64 - 1)
many_zeros n i j h k = twenty_fill n (10 ^ i) (ten_above 20 i h) ∙ sym (twenty_fill n (10 ^ j) (ten_above 20 j k))

pub zeros_at_most : (n i : ℕ) → min (n * 10 ^ min i 20) (2 ^ 64 - 1) ≡ min (n * 10 ^ i) (2 ^ 64 - 1)
zeros_at_most n i = elim (cases_lt i 20) [
  | inl low ↦ let e : min i 20 ≡ i = omega arith in rw e refl
  | inr high ↦ let e : min i 20 ≡ 20 = omega arith in rw e (many_zeros n 20 i (omega arith) high)
]

-- ---- fractions below a tenth
pub far_quotient : (n k i : ℕ) (c : Quotient) → n < 10 ^ k → k < i → c.whole ≡ 0 → c.is_half ≡ false → c.has_rest ≡ ltb 0 n → IsQuotient n (10 ^ i) c
far_quotient n k i c h l w p r =
    let big : 10 * 10 ^ k ≤ 10 ^ i = omega (arith, pow-add 10 1 k, ten_above (1 + k) i (omega arith)) in
    quotient_from n (10 ^ i) 0 n c (omega arith) (omega arith) w (p ∙ below n (10 ^ k) (10 ^ i) h big) r
  where
    below : (n q p : ℕ) → n < q → 10 * q ≤ p → false ≡ leb p (2 * n)
    below n q p h k = grind (arith, nat_tests)

-- ---- whole multiples
pub grown_quotient : (n up down : ℕ) (c : Quotient) → down ≤ up → c.whole ≡ min (min n (2 ^ 64 - 1) * 10 ^ (up - down)) (2 ^ 64 - 1) → c.is_half ≡ false → c.has_rest ≡ false → IsQuotient (n * 10 ^ up) (10 ^ down) c
grown_quotient n up down c h w p r =
    let k = up - down in
    let gap : k + down ≡ up = omega arith in
    let power : n * 10 ^ up ≡ n * 10 ^ k * 10 ^ down + 0 = omega (arith, ap (λ x. n * x) (ap (λ x. 10 ^ x) (sym gap) ∙ pow-add 10 k down)) in
    quotient_from (n * 10 ^ up) (10 ^ down) (n * 10 ^ k) 0 c power (ten_pos down) (w ∙ full n (10 ^ k) (ten_pos k)) (p ∙ no_half (10 ^ down) (ten_pos down)) r
  where
    full : (n p : ℕ) → 0 < p → min (min n (2 ^ 64 - 1) * p) (2 ^ 64 - 1) ≡ min (n * p) (2 ^ 64 - 1)
    full n p h = let e = saturated_join n p 0 h in omega (arith, e)

    no_half : (d : ℕ) → 0 < d → false ≡ leb d (2 * 0)
    no_half d h = grind (arith, nat_tests)

-- ---- an exponent that is cut off at the greatest `u64` serves where the digits are fewer
power_over_power : (n up down : ℕ) → down ≤ up → (n * 10 ^ up / 10 ^ down ≡ n * 10 ^ (up - down)) × (n * 10 ^ up % 10 ^ down ≡ 0)
power_over_power n up down h =
    let k = up - down in
    let gap : k + down ≡ up = omega arith in
    let power : n * 10 ^ up ≡ n * 10 ^ k * 10 ^ down + 0 = omega (arith, ap (λ x. n * x) (ap (λ x. 10 ^ x) (sym gap) ∙ pow-add 10 k down)) in
    (ap (λ m. m / 10 ^ down) power ∙ div-mul-add (n * 10 ^ k) (10 ^ down) 0 (ten_pos down), ap (λ m. m % 10 ^ down) power ∙ mod-mul-add (n * 10 ^ k) (10 ^ down) 0 (ten_pos down))

raised_far : (n a b down : ℕ) (c : Quotient) → down + 20 ≤ a → down + 20 ≤ b → IsQuotient (n * 10 ^ a) (10 ^ down) c → IsQuotient (n * 10 ^ b) (10 ^ down) c
raised_far n a b down c ha hb h =
    let p = power_over_power n a down (omega arith) in
    let q = power_over_power n b down (omega arith) in
    same_quotient (n * 10 ^ a) (10 ^ down) (n * 10 ^ b) (10 ^ down) c
    (ap (λ m. min m (2 ^ 64 - 1)) p.0 ∙ many_zeros n (a - down) (b - down) (omega arith) (omega arith) ∙ ap (λ m. min m (2 ^ 64 - 1)) (sym q.0))
    (ap (λ m. leb (10 ^ down) (2 * m)) (p.1 ∙ sym q.1)) (ap (λ m. ltb 0 m) (p.1 ∙ sym q.1)) h

pub raised_enough : (n digits size e down : ℕ) (c : Quotient) → size ≡ min e (2 ^ 64 - 1) → down < 2 ^ 63 → IsQuotient (n * 10 ^ (digits + size)) (10 ^ down) c → IsQuotient (n * 10 ^ (digits + e)) (10 ^ down) c
raised_enough n digits size e down c s l h = elim (cases_lt e (2 ^ 64 - 1)) [
  | inl low ↦ let same : size ≡ e = omega arith in subst (λ k. IsQuotient (n * 10 ^ (digits + k)) (10 ^ down) c) same h
  | inr high ↦ raised_far n (digits + size) (digits + e) down c (omega arith) (omega arith) h
]

below_tenth : (n k i : ℕ) → n < 10 ^ k → k < i → (n / 10 ^ i ≡ 0) × (n % 10 ^ i ≡ n) × (leb (10 ^ i) (2 * n) ≡ false)
below_tenth n k i l h =
    let big : 10 * 10 ^ k ≤ 10 ^ i = omega (arith, pow-add 10 1 k, ten_above (1 + k) i (omega arith)) in
    let below : n < 10 ^ i = omega arith in
    (div-eq_of_lt below, mod-eq_of_lt below, no_half n (10 ^ k) (10 ^ i) l big)
  where
    no_half : (n q p : ℕ) → n < q → 10 * q ≤ p → leb p (2 * n) ≡ false
    no_half n q p h k = grind (arith, nat_tests)

lowered_far : (n k a b : ℕ) (c : Quotient) → n < 10 ^ k → k < a → k < b → IsQuotient n (10 ^ a) c → IsQuotient n (10 ^ b) c
lowered_far n k a b c l ha hb h =
    let p = below_tenth n k a l ha in
    let q = below_tenth n k b l hb in
    same_quotient n (10 ^ a) n (10 ^ b) c (ap (λ m. min m (2 ^ 64 - 1)) (p.0 ∙ sym q.0))
    (ap (λ m. leb (10 ^ a) (2 * m)) p.1 ∙ p.2 ∙ sym q.2 ∙ ap (λ m. leb (10 ^ b) (2 * m)) (sym q.1))
    (ap (λ m. ltb 0 m) (p.1 ∙ sym q.1)) h

pub lowered_enough : (n count digits size e down : ℕ) (c : Quotient) → n < 10 ^ count → size ≡ min e (2 ^ 64 - 1) → count + digits < down + (2 ^ 64 - 1) → IsQuotient (n * 10 ^ digits) (10 ^ (down + size)) c → IsQuotient (n * 10 ^ digits) (10 ^ (down + e)) c
lowered_enough n count digits size e down c l s far h = elim (cases_lt e (2 ^ 64 - 1)) [
  | inl low ↦ let same : size ≡ e = omega arith in subst (λ k. IsQuotient (n * 10 ^ digits) (10 ^ (down + k)) c) same h
  | inr high ↦ lowered_far (n * 10 ^ digits) (count + digits) (down + size) (down + e) c below (omega arith) (omega arith) h
]
  where
    below : n * 10 ^ digits < 10 ^ (count + digits)
    below = rw (pow-add 10 count digits) (times_below n (10 ^ count) (10 ^ digits) (ten_pos digits) l)
      where
        times_below : (a b p : ℕ) → 0 < p → a < b → a * p < b * p
        times_below a b p h k = omega (arith, mul-le-mul k (le_refl p))

-- ---- the whole number nearest to a fraction
pub nearest_is : (n d : ℕ) → 0 < d → (2 * n + d) / (2 * d) ≡ n / d + cond (leb d (2 * (n % d))) 1 0
nearest_is n d h = by_half (n / d) (n % d) (div-add-mod' n d) (mod-lt n h)
  where
    by_half : (q r : ℕ) → q * d + r ≡ n → r < d → (2 * n + d) / (2 * d) ≡ q + cond (leb d (2 * r)) 1 0
    by_half q r e l = elim (cases_lt (2 * r) d) [
      | inl low ↦
          let t : leb d (2 * r) ≡ false = grind (arith, nat_tests) in
          let split : 2 * n + d ≡ q * (2 * d) + (2 * r + d) = omega (arith, ap (λ x. 2 * x) e) in
          rw t (ap (λ m. m / (2 * d)) split ∙ div-mul-add q (2 * d) (2 * r + d) (omega arith) ∙ omega arith)
      | inr high ↦
          let t : leb d (2 * r) ≡ true = grind (arith, nat_tests) in
          let split : 2 * n + d ≡ (q + 1) * (2 * d) + (2 * r - d) = omega (arith, ap (λ x. 2 * x) e) in
          rw t (ap (λ m. m / (2 * d)) split ∙ div-mul-add (q + 1) (2 * d) (2 * r - d) (omega arith))
    ]

-- ---- the first digits are the whole part, and the next says whether the others are a half
pub front_is_quotient : (ds : List ℕ) (count k : ℕ) (c : Quotient) → AllDigits 10 ds → count < length ds → k ≡ length ds - count → c.whole ≡ min (digits_value 10 (take count ds)) (2 ^ 64 - 1) → c.is_half ≡ leb 53 (get_or ds count 0) → c.has_rest ≡ ltb 0 (digits_value 10 (drop count ds)) → IsQuotient (digits_value 10 ds) (10 ^ k) c
front_is_quotient ds count k c h within e w p r =
    let front = take count ds in
    let back = drop count ds in
    let size : length back ≡ k = length-drop count ds ∙ sym e in
    let parts : digits_value 10 ds ≡ digits_value 10 front * 10 ^ k + digits_value 10 back =
    ap (digits_value 10) (sym (take-append-drop count ds)) ∙ digits_value-append front back ∙ ap (λ n. digits_value 10 front * 10 ^ n + digits_value 10 back) size in
    let below : digits_value 10 back < 10 ^ k = subst (λ n. digits_value 10 back < 10 ^ n) size (digits_value-lt 10 back (AllDigits-drop count ds h)) in
    quotient_from (digits_value 10 ds) (10 ^ k) (digits_value 10 front) (digits_value 10 back) c parts below w (p ∙ half size) r
  where
    half : length (drop count ds) ≡ k → leb 53 (get_or ds count 0) ≡ leb (10 ^ k) (2 * digits_value 10 (drop count ds))
    half size =
        let first = drop_more ds count 0 within in
        let digits : AllDigits 10 (get_or ds count 0 ∷ drop (count + 1) ds) = subst (AllDigits 10) first (AllDigits-drop count ds h) in
        sym (leb-half (get_or ds count 0) (drop (count + 1) ds) digits)
        ∙ ap (λ xs. leb (10 ^ length xs) (2 * digits_value 10 xs)) (sym first)
        ∙ ap (λ n. leb (10 ^ n) (2 * digits_value 10 (drop count ds))) size
