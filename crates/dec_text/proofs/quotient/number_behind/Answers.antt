use Rattle.std.proofs.Common.{◌≡◌, ◌+◌, ◌-◌, ◌*◌, ◌^◌, ◌<◌, min, length, get_or, take, ap, ◌∙◌, arith}
use Rattle.std.proofs.lemmas.Int.Digits.{digits_value_more}
use Rattle.std.proofs.lemmas.Nat.{pow-add}
use Rattle.std.proofs.lemmas.Str.{digit_value_digit}
use Rattle.std.proofs.lemmas.Str.Parse.{digit_at}
use Rattle.std.specs.Str.Parse.{digits_value}
use Rattle.dec_text.proofs.Quotients.{saturated_step}
use Rattle.dec_text.proofs.quotient.number_behind.Goals as goal

pub overflow_sub-digit : goal.overflow_sub-digit
overflow_sub-digit c = (digit_at c.args.digits.now c.loop-digit.digit-index c.requires (omega arith)).0

pub loop-digit-preserved : goal.loop-digit-preserved
loop-digit-preserved c =
    let ds = c.args.digits.now in
    let k = c.loop-digit.digit-index in
    let within : k < length ds = omega arith in
    let d = get_or ds k 0 in
    let front = digits_value 10 (take k ds) in
    let more : front * 10 + (d - 48) ≡ digits_value 10 (take (k + 1) ds) =
    omega (arith, digits_value_more 10 ds k within, digit_value_digit d (digit_at ds k c.requires within)) in
    let power : 10 ^ k * 10 ≡ 10 ^ (k + 1) = omega (arith, pow-add 10 k 1) in
    c.saturating_add-value.ensures
    ∙ ap (λ m. min (m + (d - 48)) (2 ^ 64 - 1)) c.saturating_mul.ensures
    ∙ saturated_step c.args.start front (10 ^ k) (d - 48) c.loop-digit.value c.loop-digit.invariant
    ∙ (λ i. min (c.args.start * power i + more i) (2 ^ 64 - 1))
