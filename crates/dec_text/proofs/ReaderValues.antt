-- What a text is worth on the grid, by its parts.
use Rattle.std.proofs.Common.{◌≡◌, ℕ, ◌+◌, ◌-◌, ◌*◌, ◌^◌, ◌<◌, min, Bool, true, false, cond, leb, ltb, ◌&&◌, ◌||◌, not, List, [], ◌∷◌, ◌++◌, length, zero, suc, Some, Err, IsTrue, true≢false, refl, sym, ◌∙◌, ap, subst, arith, inl, inr}
use Rattle.std.proofs.lemmas.Bool.{cases_lt, and_parts, leb-true}
use Rattle.std.proofs.lemmas.Bool.Decides.{nat_tests}
use Rattle.std.proofs.lemmas.Str.{digit_value_digit}
use Rattle.std.specs.Char.{digit_value, is_ascii_digit}
use Rattle.std.specs.List.{list_all, list_any}
use Rattle.std.specs.Str.Parse.{AllDigits, digits_value, starts_with_minus, without_leading_sign}
use Rattle.dec_text.specs.declared.quotient.Quotient.{Quotient}
use Rattle.dec_text.specs.declared.Snap.{Snap}
use Rattle.dec_text.specs.declared.DecErr.TheVariants.{NotDecimal}
use Rattle.dec_text.specs.Calls.Quotient.{IsQuotient}
use Rattle.dec_text.specs.Calls.Reader.{is_mark, is_numeral, digits_before, digits_behind, exponent_text, is_decimal, exponent_size, decimal_parts, decimal_of}
use Rattle.dec_text.specs.Decimal.{Decimal, with_sign, numerator, denominator, tens_up, tens_down}
use Rattle.dec_text.specs.declared.TheConstants.{GREATEST_SIZE}
use Rattle.dec_text.proofs.Digits.{ten_pos}
use Rattle.dec_text.specs.Grid.{place_in_box, place_on_grid, grid_value}

-- ---- a numeral's bytes are digits
pub AllDigits-list_all : (ds : List ℕ) → list_all is_ascii_digit ds ≡ true → AllDigits 10 ds
AllDigits-list_all [] h = tt
AllDigits-list_all (c ∷ cs) h =
    let parts = and_parts (is_ascii_digit c) (list_all is_ascii_digit cs) h in
    (below c parts.0, AllDigits-list_all cs parts.1)
  where
    below : (c : ℕ) → is_ascii_digit c ≡ true → digit_value c < 10
    below c t =
        let range = and_parts (leb 48 c) (leb c 57) t in
        omega (arith, digit_value_digit c (leb-true 48 c range.0, leb-true c 57 range.1), leb-true c 57 range.1)

pub AllDigits-is_numeral : (ds : List ℕ) → is_numeral ds ≡ true → AllDigits 10 ds
AllDigits-is_numeral ds h = AllDigits-list_all ds (and_parts (ltb 0 (length ds)) (list_all is_ascii_digit ds) h).1

pub AllDigits-both : (xs ys : List ℕ) → AllDigits 10 (xs ++ ys) → AllDigits 10 xs × AllDigits 10 ys
AllDigits-both [] ys h = (tt, h)
AllDigits-both (x ∷ xs) ys h = let both = AllDigits-both xs ys h.1 in ((h.0, both.0), both.1)

-- ---- the box
pub place_in_box-min : (negative : Bool) (n : ℕ) → place_in_box negative (min n (2 ^ 64 - 1)) ≡ place_in_box negative n
place_in_box-min negative n = elim (cases_lt n (2 ^ 64 - 1)) [
  | inl low ↦ let e : min n (2 ^ 64 - 1) ≡ n = omega arith in rw e refl
  | inr high ↦
      let e : min n (2 ^ 64 - 1) ≡ 2 ^ 64 - 1 = omega arith in
      let t : leb n GREATEST_SIZE ≡ false = grind (arith, nat_tests) in
      rw (e, t) refl
]

-- ---- the value on the grid
pub grid_value-refused : (text : List ℕ) (digits : ℕ) (snap : Snap) → is_decimal text ≡ false → Err NotDecimal ≡ grid_value text digits snap
unfolding grid_value decimal_of
grid_value-refused text digits snap h = rw h refl

pub grid_value-read : (text : List ℕ) (digits : ℕ) (snap : Snap) → is_decimal text ≡ true → grid_value text digits snap ≡ place_on_grid (Some (decimal_parts text)) digits snap
unfolding grid_value decimal_of
grid_value-read text digits snap h = rw h refl

pub grid_value-is : (text : List ℕ) (digits : ℕ) (snap : Snap) → grid_value text digits snap ≡ place_on_grid (decimal_of text) digits snap
unfolding grid_value
grid_value-is text digits snap = refl

pub is_decimal-is : (text : List ℕ) → is_decimal text ≡ (is_numeral (digits_before text ++ digits_behind text) && (not (list_any is_mark text) || is_numeral (without_leading_sign (exponent_text text))))
unfolding is_decimal
is_decimal-is text = refl

tens_up-is : (negative : Bool) (n : ℕ) → tens_up (with_sign negative n) ≡ cond negative 0 n
tens_up-is true zero = refl
tens_up-is true (suc n) = refl
tens_up-is false n = refl

tens_down-is : (negative : Bool) (n : ℕ) → tens_down (with_sign negative n) ≡ cond negative n 0
tens_down-is true zero = refl
tens_down-is true (suc n) = refl
tens_down-is false n = refl

numerator-is : (text : List ℕ) (digits : ℕ) → numerator (decimal_parts text) digits ≡ digits_value 10 (digits_before text ++ digits_behind text) * 10 ^ (digits + cond (starts_with_minus (exponent_text text)) 0 (exponent_size text))
unfolding numerator exponent_size
numerator-is text digits = ap (λ n. digits_value 10 (digits_before text ++ digits_behind text) * 10 ^ (digits + n)) (tens_up-is (starts_with_minus (exponent_text text)) (digits_value 10 (without_leading_sign (exponent_text text))))

denominator-is : (text : List ℕ) → denominator (decimal_parts text) ≡ 10 ^ (length (digits_behind text) + cond (starts_with_minus (exponent_text text)) (exponent_size text) 0)
unfolding denominator exponent_size
denominator-is text = ap (λ n. 10 ^ (length (digits_behind text) + n)) (tens_down-is (starts_with_minus (exponent_text text)) (digits_value 10 (without_leading_sign (exponent_text text))))

pub value_quotient : (text : List ℕ) (digits : ℕ) (w f : List ℕ) (down : Bool) (c : Quotient) → w ≡ digits_before text → f ≡ digits_behind text → down ≡ starts_with_minus (exponent_text text)
    → IsQuotient (digits_value 10 (w ++ f) * 10 ^ (digits + cond down 0 (exponent_size text))) (10 ^ (length f + cond down (exponent_size text) 0)) c
    → IsQuotient (numerator (decimal_parts text) digits) (denominator (decimal_parts text)) c
value_quotient text digits w f down c p q r h =
    subst (λ d. IsQuotient (numerator (decimal_parts text) digits) d c) ((λ i. 10 ^ (length (q i) + cond (r i) (exponent_size text) 0)) ∙ sym (denominator-is text))
    (subst (λ n. IsQuotient n (10 ^ (length f + cond down (exponent_size text) 0)) c)
    ((λ i. digits_value 10 (p i ++ q i) * 10 ^ (digits + cond (r i) 0 (exponent_size text))) ∙ sym (numerator-is text digits)) h)

-- ---- the parts of a decimal are digits
pub decimal_digits : (w f x : List ℕ) (has : Bool) → (is_numeral (w ++ f) && (not has || is_numeral (without_leading_sign x))) ≡ true → (¬ (IsTrue has) → x ≡ []) → AllDigits 10 w × AllDigits 10 f × AllDigits 10 (without_leading_sign x)
decimal_digits w f x has h none =
    let parts = and_parts (is_numeral (w ++ f)) (not has || is_numeral (without_leading_sign x)) h in
    let both = AllDigits-both w f (AllDigits-is_numeral (w ++ f) parts.0) in
    (both.0, both.1, power has parts.1 none)
  where
    power : (has : Bool) → (not has || is_numeral (without_leading_sign x)) ≡ true → (¬ (IsTrue has) → x ≡ []) → AllDigits 10 (without_leading_sign x)
    power true h none = AllDigits-is_numeral (without_leading_sign x) h
    power false h none = subst (λ y. AllDigits 10 (without_leading_sign y)) (sym (none (λ t. absurd (true≢false (sym t))))) tt

pub denominator_pos : (d : Decimal) → 0 < denominator d
unfolding denominator
denominator_pos d = ten_pos (length d.behind + tens_down d.exponent)

pub exponent_size-is : (text : List ℕ) → exponent_size text ≡ digits_value 10 (without_leading_sign (exponent_text text))
unfolding exponent_size
exponent_size-is text = refl
