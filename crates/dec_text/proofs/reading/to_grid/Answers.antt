use Rattle.std.proofs.Common.{◌≡◌, ℕ, ◌+◌, ◌-◌, ◌*◌, ◌^◌, ◌++◌, min, ◌&&◌, ◌||◌, not, length, subst, sym, ap, ◌∙◌, arith}
use Rattle.std.specs.Str.Parse.{AllDigits, digits_value, without_leading_sign, starts_with_minus}
use Rattle.dec_text.specs.Calls.Reader.{is_numeral, is_decimal, exponent_size, decimal_parts}
use Rattle.dec_text.specs.Decimal.{numerator, denominator}
use Rattle.dec_text.specs.Grid.{snapped_place, grid_value, IsAnswer}
use Rattle.dec_text.proofs.Meaning.{value_is_answer, answer_in_box}
use Rattle.dec_text.proofs.ReaderValues.{grid_value-refused, grid_value-read, is_decimal-is, value_quotient, denominator_pos, exponent_size-is, decimal_digits}
use Rattle.dec_text.proofs.reading.to_grid.Goals as goal

pub returns-then-not-is_decimal-clause-value : goal.returns-then-not-is_decimal-clause-value
returns-then-not-is_decimal-clause-value c =
    let parts = c.of-parts.ensures in
    let tested : c.is_decimal.result ≡ is_decimal c.args.text.now =
    c.is_decimal.ensures ∙ (λ i. is_numeral (parts.before i ++ parts.behind i) && (not (parts.has_exponent i) || is_numeral (without_leading_sign (parts.exponent i)))) ∙ sym (is_decimal-is c.args.text.now) in
    grid_value-refused c.args.text.now c.args.digits c.args.snap (sym tested ∙ c.if-not-is_decimal.true)

pub returns-then-not-is_decimal-clause-answer : goal.returns-then-not-is_decimal-clause-answer
returns-then-not-is_decimal-clause-answer c =
    let digits = c.args.digits in
    let snap = c.args.snap in
    subst (IsAnswer c.args.text.now digits snap) (sym (returns-then-not-is_decimal-clause-value c)) (value_is_answer c.args.text.now digits snap)

pub number_behind-size-requires : goal.number_behind-size-requires
number_behind-size-requires c =
    let parts = c.of-parts.result in
    let digits = decimal_digits parts.before.now parts.behind.now parts.exponent.now parts.has_exponent (sym c.is_decimal.ensures ∙ c.if-not-is_decimal.false) c.of-parts.ensures.no_exponent in
    subst (AllDigits 10) (sym c.unsigned.ensures) digits.2

pub scaled_quotient-quotient-requires-clause-whole : goal.scaled_quotient-quotient-requires-clause-whole
scaled_quotient-quotient-requires-clause-whole c =
    let parts = c.of-parts.result in
    (decimal_digits parts.before.now parts.behind.now parts.exponent.now parts.has_exponent (sym c.is_decimal.ensures ∙ c.if-not-is_decimal.false) c.of-parts.ensures.no_exponent).0

pub scaled_quotient-quotient-requires-clause-fraction : goal.scaled_quotient-quotient-requires-clause-fraction
scaled_quotient-quotient-requires-clause-fraction c =
    let parts = c.of-parts.result in
    (decimal_digits parts.before.now parts.behind.now parts.exponent.now parts.has_exponent (sym c.is_decimal.ensures ∙ c.if-not-is_decimal.false) c.of-parts.ensures.no_exponent).1

value : (c : goal.After-snapped_place) → c.snapped_place.result ≡ grid_value c.args.text.now c.args.digits c.args.snap
value c =
    let text = c.args.text.now in
    let digits = c.args.digits in
    let parts = c.of-parts.ensures in
    let tested : c.is_decimal.result ≡ is_decimal text =
    c.is_decimal.ensures ∙ (λ i. is_numeral (parts.before i ++ parts.behind i) && (not (parts.has_exponent i) || is_numeral (without_leading_sign (parts.exponent i)))) ∙ sym (is_decimal-is text) in
    let size : c.number_behind-size.result ≡ min (exponent_size text) (2 ^ 64 - 1) =
    c.number_behind-size.ensures
    ∙ only (10 ^ length c.unsigned.result.now) (digits_value 10 c.unsigned.result.now)
    ∙ ap (λ ds. min (digits_value 10 ds) (2 ^ 64 - 1)) (c.unsigned.ensures ∙ ap without_leading_sign parts.exponent)
    ∙ ap (λ n. min n (2 ^ 64 - 1)) (sym (exponent_size-is text)) in
    let quotient = value_quotient text digits c.of-parts.result.before.now c.of-parts.result.behind.now c.is_minus_first-is_down.result c.scaled_quotient-quotient.result parts.before parts.behind
    (c.is_minus_first-is_down.ensures ∙ ap starts_with_minus parts.exponent) (c.scaled_quotient-quotient.ensures (exponent_size text) size) in
    let n = numerator (decimal_parts text) digits in
    let d = denominator (decimal_parts text) in
    c.snapped_place.ensures n d (denominator_pos (decimal_parts text)) quotient
    ∙ ap (λ b. snapped_place b n d c.args.snap) parts.negative
    ∙ sym (grid_value-read text digits c.args.snap (sym tested ∙ c.if-not-is_decimal.false))
  where
    only : (p n : ℕ) → min (0 * p + n) (2 ^ 64 - 1) ≡ min n (2 ^ 64 - 1)
    only p n = omega arith

pub returns : goal.returns
returns c =
    let text = c.args.text.now in
    let e = value c in
    let answer = subst (IsAnswer text c.args.digits c.args.snap) (sym e) (value_is_answer text c.args.digits c.args.snap) in
    record { value = e; answer = answer; in_box = answer_in_box text c.args.digits c.args.snap c.snapped_place.result answer }
