-- The decimal that is read of a text is the one of the grammar, and there is no other.
use Rattle.std.proofs.Common.{◌≡◌, ℕ, ◌+◌, ◌<◌, Bool, true, false, cond, eqb, leb, ltb, ◌&&◌, ◌||◌, not, List, [], ◌∷◌, ◌++◌, length, get_or, take, drop, Some, None, ℤ, pos, true≢false, refl, sym, ◌∙◌, ap, subst, arith, inl, inr, ◌⊎◌, append-nil, append_assoc}
use Rattle.std.proofs.lemmas.Bool.{cases_Bool, cases_lt, or_cases, and_parts, lt-ltb, le-leb, eqb-true, ltb-true}
use Rattle.std.proofs.lemmas.Bool.Decides.{nat_tests}
use Rattle.std.proofs.lemmas.List.{take_all, drop_all, take_at}
use Rattle.std.proofs.lemmas.List.Folds.{list_any-append}
use Rattle.std.proofs.lemmas.List.Sums.{split_at_first, passes_at_first}
use Rattle.std.proofs.lemmas.Str.Parse.{digit_from_value}
use Rattle.std.proofs.Math.Seq.{take-append_seam, take-length, drop-append-add}
use Rattle.std.specs.Char.{is_ascii_digit}
use Rattle.std.specs.Int.{IsInRange}
use Rattle.std.specs.List.{list_all, list_any, position_or_len, before_first, after_first}
use Rattle.std.specs.Str.Parse.{AllDigits, IsNumeral, digits_value, signed_digits_value, without_leading_sign, starts_with_minus}
use Rattle.dec_text.specs.Calls.Reader.{is_mark, is_point, is_numeral, mantissa, unsigned_mantissa, digits_before, digits_behind, exponent_text, is_decimal, decimal_parts, decimal_of}
use Rattle.dec_text.specs.Decimal.{Decimal, IsSign, IsPoint, IsPower, IsDecimal, with_sign}
use Rattle.dec_text.proofs.ReaderValues.{AllDigits-is_numeral, AllDigits-both, is_decimal-is}
use Rattle.dec_text.proofs.FirstMatches.{ltb-position_or_len, position_or_len-none, position_or_len-next}

-- ---- digits are no points, no marks and no signs
none_of_digits : (p : ℕ → Bool) → ((c : ℕ) → IsInRange 48 57 c → p c ≡ false) → (ds : List ℕ) → AllDigits 10 ds → list_any p ds ≡ false
none_of_digits p h [] d = refl
none_of_digits p h (c ∷ cs) d = rw (h c (digit_from_value c d.0)) (none_of_digits p h cs d.1)

no_point : (c : ℕ) → IsInRange 48 57 c → is_point c ≡ false
no_point c h = grind (arith, nat_tests, h.0, h.1)

no_mark : (c : ℕ) → IsInRange 48 57 c → is_mark c ≡ false
no_mark c h =
    let a : eqb c 101 ≡ false = grind (arith, nat_tests, h.0, h.1) in
    let b : eqb c 69 ≡ false = grind (arith, nat_tests, h.0, h.1) in
    rw (a, b) refl

list_all-digits : (ds : List ℕ) → AllDigits 10 ds → list_all is_ascii_digit ds ≡ true
list_all-digits [] d = refl
list_all-digits (c ∷ cs) d =
    let r = digit_from_value c d.0 in
    let a : leb 48 c ≡ true = le-leb 48 c r.0 in
    let b : leb c 57 ≡ true = le-leb c 57 r.1 in
    rw (a, b) (list_all-digits cs d.1)

unsigned_digits : (ds rest : List ℕ) → 0 < length ds → AllDigits 10 ds → (starts_with_minus (ds ++ rest) ≡ false) × (without_leading_sign (ds ++ rest) ≡ ds ++ rest)
unsigned_digits [] rest h d = absurd (omega arith)
unsigned_digits (c ∷ cs) rest h d =
    let r = digit_from_value c d.0 in
    let a : eqb c 45 ≡ false = grind (arith, nat_tests, r.0, r.1) in
    let b : eqb c 43 ≡ false = grind (arith, nat_tests, r.0, r.1) in
    (a, rw (a, b) refl)

-- ---- digits, and then nothing or a point and digits
abbrev tail : Bool → List ℕ → List ℕ
tail none f = cond none [] (46 ∷ f)

before_point : (q f : List ℕ) (none : Bool) → AllDigits 10 q → before_first is_point (q ++ tail none f) ≡ q
before_point q f true d = rw (append-nil q, position_or_len-none is_point q (none_of_digits is_point no_point q d)) (take-length q)
before_point q f false d = rw (position_or_len-next is_point q 46 f (none_of_digits is_point no_point q d) refl) (take-append_seam q (46 ∷ f))

behind_point : (q f : List ℕ) (none : Bool) → AllDigits 10 q → (none ≡ true → f ≡ []) → after_first is_point (q ++ tail none f) ≡ f
behind_point q f true d h = rw (append-nil q, position_or_len-none is_point q (none_of_digits is_point no_point q d)) (drop_all (length q + 1) q (omega arith) ∙ sym (h refl))
behind_point q f false d h = rw (position_or_len-next is_point q 46 f (none_of_digits is_point no_point q d) refl) (drop-append-add q (46 ∷ f) 1)

tail_marks : (f : List ℕ) (none : Bool) → AllDigits 10 f → list_any is_mark (tail none f) ≡ false
tail_marks f true d = refl
tail_marks f false d = none_of_digits is_mark no_mark f d

-- ---- the sign
sign_marks : (negative : Bool) (s : List ℕ) → IsSign negative s → list_any is_mark s ≡ false
sign_marks true s e = ap (list_any is_mark) e
sign_marks false s (inl e) = ap (list_any is_mark) e
sign_marks false s (inr e) = ap (list_any is_mark) e

-- a text that has no sign, and that text behind a sign
record IsUnsigned (xs : List ℕ) : Type 0 where
  pub minus : starts_with_minus xs ≡ false
  pub whole : without_leading_sign xs ≡ xs

behind_sign : (negative : Bool) (s xs : List ℕ) → IsSign negative s → IsUnsigned xs → without_leading_sign (s ++ xs) ≡ xs
behind_sign true s xs e h = ap (λ t. without_leading_sign (t ++ xs)) e
behind_sign false s xs (inl e) h = ap (λ t. without_leading_sign (t ++ xs)) e ∙ h.whole
behind_sign false s xs (inr e) h = ap (λ t. without_leading_sign (t ++ xs)) e

sign_is : (negative : Bool) (s xs : List ℕ) → IsSign negative s → IsUnsigned xs → starts_with_minus (s ++ xs) ≡ negative
sign_is true s xs e h = ap (λ t. starts_with_minus (t ++ xs)) e
sign_is false s xs (inl e) h = ap (λ t. starts_with_minus (t ++ xs)) e ∙ h.minus
sign_is false s xs (inr e) h = ap (λ t. starts_with_minus (t ++ xs)) e

numeral_unsigned : (ds : List ℕ) → IsNumeral 10 ds → IsUnsigned ds
numeral_unsigned ds h = subst (λ xs. IsUnsigned xs) (append-nil ds) (let u = unsigned_digits ds [] h.0 h.1 in record { minus = u.0; whole = u.1 })

body_unsigned : (q f : List ℕ) (none : Bool) → AllDigits 10 q → IsUnsigned (q ++ tail none f)
body_unsigned [] f true d = record { minus = refl; whole = refl }
body_unsigned [] f false d = record { minus = refl; whole = refl }
body_unsigned (c ∷ cs) f none d = let u = unsigned_digits (c ∷ cs) (tail none f) (omega arith) d in record { minus = u.0; whole = u.1 }

numeral_test : (ds : List ℕ) → IsNumeral 10 ds → is_numeral ds ≡ true
numeral_test ds h =
    let some : ltb 0 (length ds) ≡ true = lt-ltb 0 (length ds) h.0 in
    rw (some, list_all-digits ds h.1) refl

-- ---- a text of the grammar is read as its decimal
-- what is read of a text, by its parts
decimal_of-parts : (text : List ℕ) (d : Decimal) → is_decimal text ≡ true → starts_with_minus (mantissa text) ≡ d.negative → digits_before text ≡ d.before → digits_behind text ≡ d.behind → signed_digits_value 10 (exponent_text text) ≡ d.exponent → decimal_of text ≡ Some d
unfolding decimal_of
decimal_of-parts text d is n w f e = ap (λ b. cond b (Some (decimal_parts text)) None) is ∙ (λ i. Some (record { negative = n i; before = w i; behind = f i; exponent = e i }))

-- the sign, the body, and then nothing or a power
module _ (negative : Bool) (s q f : List ℕ) (none : Bool) (signed : IsSign negative s) (numeral : IsNumeral 10 (q ++ f)) (f_none : none ≡ true → f ≡ []) where
  q_digits : AllDigits 10 q
  q_digits = (AllDigits-both q f numeral.1).0

  f_digits : AllDigits 10 f
  f_digits = (AllDigits-both q f numeral.1).1

  abbrev front : List ℕ
  front = s ++ (q ++ tail none f)

  abbrev decimal_with : ℤ → Decimal
  decimal_with e = record { negative = negative; before = q; behind = f; exponent = e }

  front_marks : list_any is_mark front ≡ false
  front_marks =
      list_any-append is_mark s (q ++ tail none f)
      ∙ (λ i. sign_marks negative s signed i || list_any-append is_mark q (tail none f) i)
      ∙ (λ i. none_of_digits is_mark no_mark q q_digits i || tail_marks f none f_digits i)

  -- a text whose mantissa this is, with a good exponent
  with_exponent : (text : List ℕ) (e : ℤ) → mantissa text ≡ front → (not (list_any is_mark text) || is_numeral (without_leading_sign (exponent_text text))) ≡ true → signed_digits_value 10 (exponent_text text) ≡ e → decimal_of text ≡ Some (decimal_with e)
  with_exponent text e c good value =
      let body = body_unsigned q f none q_digits in
      let u : unsigned_mantissa text ≡ q ++ tail none f = ap without_leading_sign c ∙ behind_sign negative s (q ++ tail none f) signed body in
      let w : digits_before text ≡ q = ap (λ xs. before_first is_point xs) u ∙ before_point q f none q_digits in
      let r : digits_behind text ≡ f = ap (λ xs. after_first is_point xs) u ∙ behind_point q f none q_digits f_none in
      let tested : is_decimal text ≡ true = is_decimal-is text ∙ (λ i. is_numeral (w i ++ r i) && good i) ∙ ap (λ b. b && true) (numeral_test (q ++ f) numeral) in
      decimal_of-parts text (decimal_with e) tested (ap starts_with_minus c ∙ sign_is negative s (q ++ tail none f) signed body) w r value

  no_power : decimal_of (front ++ []) ≡ Some (decimal_with (pos 0))
  no_power =
      let index : position_or_len is_mark front ≡ length front = position_or_len-none is_mark front front_marks in
      let before : mantissa front ≡ front = ap (λ n. take n front) index ∙ take_all (length front) front (omega arith) in
      let behind : exponent_text front ≡ [] = ap (λ n. drop (n + 1) front) index ∙ drop_all (length front + 1) front (omega arith) in
      ap decimal_of (append-nil front)
      ∙ with_exponent front (pos 0) before (ap (λ b. not b || is_numeral (without_leading_sign (exponent_text front))) front_marks) (ap (signed_digits_value 10) behind)

  with_power : (power : List ℕ) (e : ℤ) → IsPower e power → decimal_of (front ++ power) ≡ Some (decimal_with e)
  with_power power e p =
      let rest = p.sign ++ p.digits in
      let text = front ++ (p.mark ∷ rest) in
      let mark : is_mark p.mark ≡ true = marked p.mark p.mark_is in
      let index : position_or_len is_mark text ≡ length front = position_or_len-next is_mark front p.mark rest front_marks mark in
      let before : mantissa text ≡ front = ap (λ n. take n text) index ∙ take_at front (p.mark ∷ rest) (length front) refl in
      let behind : exponent_text text ≡ rest = ap (λ n. drop (n + 1) text) index ∙ drop-append-add front (p.mark ∷ rest) 1 in
      let plain = numeral_unsigned p.digits p.is_numeral in
      let unsigned : without_leading_sign (exponent_text text) ≡ p.digits = ap without_leading_sign behind ∙ behind_sign p.negative p.sign p.digits p.is_sign plain in
      let minus : starts_with_minus (exponent_text text) ≡ p.negative = ap starts_with_minus behind ∙ sign_is p.negative p.sign p.digits p.is_sign plain in
      let size : is_numeral (without_leading_sign (exponent_text text)) ≡ true = ap is_numeral unsigned ∙ numeral_test p.digits p.is_numeral in
      ap (λ xs. decimal_of (front ++ xs)) p.power_is
      ∙ with_exponent text e before ((λ i. not (list_any is_mark text) || size i) ∙ or_true (not (list_any is_mark text))) ((λ i. with_sign (minus i) (digits_value 10 (unsigned i))) ∙ sym p.exponent_is)
    where
      marked : (m : ℕ) → (m ≡ 101) ⊎ (m ≡ 69) → is_mark m ≡ true
      marked m (inl e) = ap is_mark e
      marked m (inr e) = ap is_mark e

      or_true : (b : Bool) → (b || true) ≡ true
      or_true true = refl
      or_true false = refl

pub decimal_is_read : (text : List ℕ) (d : Decimal) → IsDecimal text d → decimal_of text ≡ Some d
decimal_is_read text d g = by_point g.point g.power g.point_is g.power_is g.text_is
  where
    by_power : (none : Bool) (power : List ℕ) → (none ≡ true → d.behind ≡ []) → ((power ≡ []) × (d.exponent ≡ pos 0)) ⊎ IsPower d.exponent power → decimal_of ((g.sign ++ (d.before ++ tail none d.behind)) ++ power) ≡ Some d
    by_power none power h (inl e) =
        ap (λ p. decimal_of ((g.sign ++ (d.before ++ tail none d.behind)) ++ p)) e.0
        ∙ no_power d.negative g.sign d.before d.behind none g.is_sign g.is_numeral h
        ∙ ap (λ x. Some (record { negative = d.negative; before = d.before; behind = d.behind; exponent = x })) (sym e.1)
    by_power none power h (inr p) = with_power d.negative g.sign d.before d.behind none g.is_sign g.is_numeral h power d.exponent p

    by_point : (point power : List ℕ) → IsPoint d.behind point → ((power ≡ []) × (d.exponent ≡ pos 0)) ⊎ IsPower d.exponent power → text ≡ g.sign ++ ((d.before ++ (point ++ d.behind)) ++ power) → decimal_of text ≡ Some d
    by_point point power (inl e) p t =
        ap decimal_of (t ∙ sym (append_assoc g.sign (d.before ++ (point ++ d.behind)) power) ∙ ap (λ x. (g.sign ++ (d.before ++ (x ++ d.behind))) ++ power) e)
        ∙ by_power false power (λ u. absurd (true≢false (sym u))) p
    by_point point power (inr e) p t =
        ap decimal_of (t ∙ sym (append_assoc g.sign (d.before ++ (point ++ d.behind)) power) ∙ (λ i. (g.sign ++ (d.before ++ (e.0 i ++ e.1 i))) ++ power))
        ∙ by_power true power (λ u. e.1) p

-- ---- what is read of a text is in the grammar
sign_of : (bs : List ℕ) → (s : List ℕ) × IsSign (starts_with_minus bs) s × (bs ≡ s ++ without_leading_sign bs)
sign_of [] = ([], inl refl, refl)
sign_of (b ∷ bs) = elim (cases_Bool (eqb b 45)) [
  | inl t ↦ (45 ∷ [], subst (λ n. IsSign n (45 ∷ [])) (sym t) refl, rw t (ap (λ x. x ∷ bs) (eqb-true b 45 t)))
  | inr f ↦ elim (cases_Bool (eqb b 43)) [
    | inl t ↦ (43 ∷ [], subst (λ n. IsSign n (43 ∷ [])) (sym f) (inr refl), rw (f, t) (ap (λ x. x ∷ bs) (eqb-true b 43 t)))
    | inr g ↦ ([], subst (λ n. IsSign n []) (sym f) (inl refl), rw (f, g) refl)
  ]
]

numeral_of : (ds : List ℕ) → is_numeral ds ≡ true → IsNumeral 10 ds
numeral_of ds h = (ltb-true 0 (length ds) (and_parts (ltb 0 (length ds)) (list_all is_ascii_digit ds) h).0, AllDigits-is_numeral ds h)

-- what stands before the first that passes, then that one and what follows it, or nothing
point_of : (c : List ℕ) → (point : List ℕ) × IsPoint (after_first is_point c) point × (c ≡ before_first is_point c ++ (point ++ after_first is_point c))
point_of c = elim (cases_lt (position_or_len is_point c) (length c)) [
  | inl within ↦
      let point : get_or c (position_or_len is_point c) 0 ≡ 46 = eqb-true _ 46 (passes_at_first is_point c 0 within) in
      (46 ∷ [], inl refl, split_at_first is_point c 0 within ∙ ap (λ b. before_first is_point c ++ (b ∷ after_first is_point c)) point)
  | inr past ↦
      let none : after_first is_point c ≡ [] = drop_all (position_or_len is_point c + 1) c (omega arith) in
      let all : before_first is_point c ≡ c = take_all (position_or_len is_point c) c past in
      ([], inr (refl, none), sym (append-nil c) ∙ (λ i. sym all i ++ sym none i))
]

power_of : (text : List ℕ) → (not (list_any is_mark text) || is_numeral (without_leading_sign (exponent_text text))) ≡ true
    → (power : List ℕ) × (((power ≡ []) × (signed_digits_value 10 (exponent_text text) ≡ pos 0)) ⊎ IsPower (signed_digits_value 10 (exponent_text text)) power) × (text ≡ mantissa text ++ power)
power_of text h = elim (cases_lt (position_or_len is_mark text) (length text)) [
  | inl within ↦
      let mark = get_or text (position_or_len is_mark text) 0 in
      let is = passes_at_first is_mark text 0 within in
      let some : list_any is_mark text ≡ true = sym (ltb-position_or_len is_mark text) ∙ lt-ltb (position_or_len is_mark text) (length text) within in
      let s = sign_of (exponent_text text) in (
        mark ∷ exponent_text text,
        inr (record {
          mark = mark;
          negative = starts_with_minus (exponent_text text);
          sign = s.0;
          digits = without_leading_sign (exponent_text text);
          power_is = ap (λ xs. mark ∷ xs) s.2;
          mark_is = which mark is;
          is_sign = s.1;
          is_numeral = numeral_of (without_leading_sign (exponent_text text)) (sym (ap (λ b. not b || is_numeral (without_leading_sign (exponent_text text))) some) ∙ h);
          exponent_is = refl;
        }),
        split_at_first is_mark text 0 within,
      )
  | inr past ↦
      let all : mantissa text ≡ text = take_all (position_or_len is_mark text) text past in
      let behind : exponent_text text ≡ [] = drop_all (position_or_len is_mark text + 1) text (omega arith) in
      ([], inl (refl, ap (signed_digits_value 10) behind), sym (append-nil text) ∙ ap (λ xs. xs ++ []) (sym all))
]
  where
    which : (m : ℕ) → is_mark m ≡ true → (m ≡ 101) ⊎ (m ≡ 69)
    which m t = elim (or_cases (eqb m 101) (eqb m 69) t) [ inl a ↦ inl (eqb-true m 101 a) | inr b ↦ inr (eqb-true m 69 b) ]

parts_are_written : (text : List ℕ) → is_decimal text ≡ true → IsDecimal text (decimal_parts text)
parts_are_written text h =
    let tests = and_parts (is_numeral (digits_before text ++ digits_behind text)) (not (list_any is_mark text) || is_numeral (without_leading_sign (exponent_text text))) (sym (is_decimal-is text) ∙ h) in
    let s = sign_of (mantissa text) in
    let p = point_of (unsigned_mantissa text) in
    let e = power_of text tests.1 in
    record {
      sign = s.0;
      point = p.0;
      power = e.0;
      text_is = e.2 ∙ ap (λ xs. xs ++ e.0) s.2 ∙ append_assoc s.0 (unsigned_mantissa text) e.0 ∙ ap (λ xs. s.0 ++ (xs ++ e.0)) p.2;
      is_sign = s.1;
      is_numeral = numeral_of (digits_before text ++ digits_behind text) tests.0;
      point_is = p.1;
      power_is = e.1;
    }

pub read_is_decimal : (text : List ℕ) (d : Decimal) → decimal_of text ≡ Some d → IsDecimal text d
unfolding decimal_of
read_is_decimal text d e = elim (cases_Bool (is_decimal text)) [
  | inl t ↦ subst (λ x. IsDecimal text x) (same (sym (ap (λ b. cond b (Some (decimal_parts text)) None) t) ∙ e)) (parts_are_written text t)
  | inr f ↦ absurd (apart (sym (ap (λ b. cond b (Some (decimal_parts text)) None) f) ∙ e))
]
  where
    same : Some (decimal_parts text) ≡ Some d → decimal_parts text ≡ d
    same h = cc

    apart : None ≡ Some d → ⊥
    apart h = cc
