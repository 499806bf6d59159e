-- The text of a place: it is a decimal, worth exactly the place, and it is a word.
use Rattle.std.proofs.Common.{◌≡◌, ℕ, zero, suc, ◌+◌, ◌-◌, ◌*◌, ◌/◌, ◌%◌, ◌^◌, ◌<◌, ◌≤◌, Bool, true, false, cond, eqb, List, [], ◌∷◌, ◌++◌, length, Ok, ℤ, pos, negsuc, unsigned_abs, refl, sym, ◌∙◌, ap, subst, arith, inl, inr, append-nil, length-append}
use Rattle.std.proofs.Math.Nat.{mod-lt, div-add-mod', div-le_self}
use Rattle.std.proofs.lemmas.Bool.{eqb-true}
use Rattle.std.proofs.lemmas.Fmt.{decimal_is_IsNumeral}
use Rattle.std.proofs.lemmas.List.{get_or_default}
use Rattle.std.proofs.lemmas.List.Elements.{All-append}
use Rattle.std.proofs.lemmas.Nat.{pow-add}
use Rattle.std.proofs.lemmas.Str.Parse.{digit_at}
use Rattle.std.proofs.lemmas.Int.{ints}
use Rattle.std.specs.Int.{w64}
use Rattle.std.specs.Prelude.{FitsSigned}
use Rattle.std.specs.List.{All}
use Rattle.std.specs.Prelude.{decimal}
use Rattle.std.specs.Str.Parse.{AllDigits, digits_value}
use Rattle.dec_text.specs.declared.TheConstants.{GREATEST_SIZE}
use Rattle.dec_text.specs.declared.Snap.TheVariants.{Exact}
use Rattle.dec_text.specs.Decimal.{Decimal, IsSign, IsPoint, IsDecimal, IsWorth, with_sign, numerator, denominator}
use Rattle.dec_text.specs.Grid.{grid_value}
use Rattle.dec_text.specs.GridText.{fraction_digits, minus_text, grid_decimal, IsDecimalFor}
use Rattle.dec_text.proofs.Digits.{digits_value-append, AllDigits-append, ten_pos}
use Rattle.dec_text.proofs.FractionDigits.{fraction_digits-none, IsFraction, fraction_digits-is, no_last_zero}
use Rattle.dec_text.proofs.Meaning.{answer_is_value}

-- nothing, or a point and digits
abbrev tail : Bool → List ℕ → List ℕ
tail none f = cond none [] (46 ∷ f)

abbrev is_below_zero : ℤ → Bool
is_below_zero (pos n) = false
is_below_zero (negsuc n) = true

sign_is_written : (v : ℤ) → IsSign (is_below_zero v) (minus_text v)
sign_is_written (pos n) = inl refl
sign_is_written (negsuc n) = refl

sign_is_kept : (v : ℤ) → v ≡ with_sign (is_below_zero v) (unsigned_abs v)
sign_is_kept (pos n) = refl
sign_is_kept (negsuc n) = refl

-- a sign, digits, and nothing or a point and digits are a decimal
module _ (v : ℤ) (q f : List ℕ) (none : Bool) (q_digits : AllDigits 10 q) (q_some : 0 < length q) (f_digits : AllDigits 10 f) (f_none : none ≡ true → f ≡ []) where
  abbrev pub written : Decimal
  written = record { negative = is_below_zero v; before = q; behind = f; exponent = pos 0 }

  point : (none : Bool) → (none ≡ true → f ≡ []) → (point : List ℕ) × IsPoint f point × (tail none f ≡ point ++ f)
  point true h = ([], inr (refl, h refl), sym (h refl))
  point false h = (46 ∷ [], inl refl, refl)

  pub text_is_decimal : IsDecimal (minus_text v ++ (q ++ tail none f)) written
  text_is_decimal =
      let p = point none f_none in
      record {
        sign = minus_text v;
        point = p.0;
        power = [];
        text_is = ap (λ xs. minus_text v ++ xs) (ap (λ xs. q ++ xs) p.2 ∙ sym (append-nil (q ++ (p.0 ++ f))));
        is_sign = sign_is_written v;
        is_numeral = (omega (arith, q_some, length-append q f), AllDigits-append q f q_digits f_digits);
        point_is = p.1;
        power_is = inl (refl, refl);
      }

  pub text_is_worth : (digits rest : ℕ) → IsFraction digits rest f → unsigned_abs v ≡ digits_value 10 q * 10 ^ digits + rest → IsWorth written v digits
  unfolding numerator denominator
  text_is_worth digits rest h split = record {
    size =
        (λ i. split i * 10 ^ nothing_more (length f) i)
        ∙ sym (regroup (10 ^ length f) (10 ^ (digits - length f)) (10 ^ digits) (digits_value 10 q) (digits_value 10 f) rest power h.worth)
        ∙ (λ i. sym (digits_value-append q f) i * 10 ^ sym (nothing_more digits) i);
    sign = sign_is_kept v;
  }
    where
      nothing_more : (n : ℕ) → n + 0 ≡ n
      nothing_more n = omega arith

      power : 10 ^ length f * 10 ^ (digits - length f) ≡ 10 ^ digits
      power = sym (pow-add 10 (length f) (digits - length f)) ∙ ap (λ k. 10 ^ k) (omega (arith, h.short))

      regroup : (a b p c u r : ℕ) → a * b ≡ p → u * b ≡ r → (c * a + u) * p ≡ (c * p + r) * a
      regroup a b p c u r e k = omega (arith, ap (λ x. u * x) e, ap (λ x. x * a) k)

pub place_is_exact : (v : ℤ) (digits : ℕ) → unsigned_abs v < 2 ^ 64 → IsDecimalFor v digits (grid_decimal v digits)
unfolding grid_decimal
place_is_exact v digits h =
    let n = unsigned_abs v in
    let p = 10 ^ digits in
    let rest = n % p in
    let q = decimal (n / p) in
    let behind = fraction_digits digits rest in
    let below : rest < p = mod-lt n (ten_pos digits) in
    let numeral = decimal_is_IsNumeral (n / p) (omega (arith, div-le_self n p)) in
    let split : n ≡ digits_value 10 q * p + rest = sym (div-add-mod' n p) ∙ ap (λ m. m * p + rest) (sym numeral.1) in
    let f = fraction_digits-is digits rest below in
    let none : eqb rest 0 ≡ true → behind ≡ [] = λ t. ap (λ r. fraction_digits digits r) (eqb-true rest 0 t) ∙ fraction_digits-none digits in
    record {
      decimal_is = written v q behind (eqb rest 0) numeral.0.1 numeral.0.0 f.are_digits none;
      is_decimal = text_is_decimal v q behind (eqb rest 0) numeral.0.1 numeral.0.0 f.are_digits none;
      worth = text_is_worth v q behind (eqb rest 0) numeral.0.1 numeral.0.0 f.are_digits none digits rest f split;
      no_last_zero = no_last_zero digits rest below;
    }

-- a number of 64 bits with a sign is small enough
pub small_enough : (v : ℤ) → FitsSigned w64 v → unsigned_abs v < 2 ^ 64
small_enough v h = omega (arith, ints, h)

pub read_back : (v : ℤ) (digits : ℕ) → unsigned_abs v ≤ GREATEST_SIZE → grid_value (grid_decimal v digits) digits Exact ≡ Ok v
read_back v digits h =
    let e = place_is_exact v digits (omega arith) in
    answer_is_value (grid_decimal v digits) digits Exact (Ok v) (e.decimal_is, e.is_decimal, record { size = unsigned_abs v; is_size = e.worth.size; in_the_box = h; signed = e.worth.sign })

-- ---- the text of a place has no blank in it
abbrev InWord : ℕ → Type 0
InWord b = (45 ≤ b) × (b ≤ 57)

in_word : (ds : List ℕ) → AllDigits 10 ds → All InWord ds
in_word ds h k d l = let r = digit_at ds k h l in subst InWord (get_or_default ds k 0 d l) (omega arith, r.1)

one_in_word : (b : ℕ) → InWord b → All InWord (b ∷ [])
one_in_word b h zero d l = h
one_in_word b h (suc k) d l = absurd (omega arith)

fraction_in_word : (digits rest : ℕ) → rest < 10 ^ digits → (none : Bool) → All InWord (tail none (fraction_digits digits rest))
fraction_in_word digits rest h true = λ k d l. absurd (omega arith)
fraction_in_word digits rest h false = All-append InWord (46 ∷ []) (fraction_digits digits rest) (one_in_word 46 (omega arith, omega arith)) (in_word _ (fraction_digits-is digits rest h).are_digits)

minus_in_word : (v : ℤ) → All InWord (minus_text v)
minus_in_word (pos n) = λ k d l. absurd (omega arith)
minus_in_word (negsuc n) = one_in_word 45 (omega arith, omega arith)

pub place_is_word : (v : ℤ) (digits : ℕ) → unsigned_abs v < 2 ^ 64 → (0 < length (grid_decimal v digits)) × All (λ b. (45 ≤ b) × (b ≤ 57)) (grid_decimal v digits)
unfolding grid_decimal
place_is_word v digits h =
    let n = unsigned_abs v in
    let p = 10 ^ digits in
    let numeral = decimal_is_IsNumeral (n / p) (omega (arith, div-le_self n p)) in
    let q = decimal (n / p) in
    let end = tail (eqb (n % p) 0) (fraction_digits digits (n % p)) in (
      omega (arith, numeral.0.0, length-append (minus_text v) (q ++ end), length-append q end),
      All-append InWord (minus_text v) (q ++ end) (minus_in_word v) (All-append InWord q end (in_word q numeral.0.1) (fraction_in_word digits (n % p) (mod-lt n (ten_pos digits)) (eqb (n % p) 0))),
    )
