use Rattle.std.proofs.Common.{◌+◌, ◌-◌, ◌*◌, ◌^◌, ◌<◌, ◌++◌, length, arith, length-append, add-zero}
use Rattle.std.proofs.lemmas.Int.Digits.{digits_value-lt}
use Rattle.std.specs.Str.Parse.{digits_value}
use Rattle.dec_text.specs.Calls.Quotient.{IsQuotient}
use Rattle.dec_text.proofs.Digits.{AllDigits-append}
use Rattle.dec_text.proofs.Quotients.{raised_enough, lowered_enough}
use Rattle.dec_text.proofs.reading.scaled_quotient.Goals as goal

pub returns-then-negative : goal.returns-then-negative
returns-then-negative c = λ e size.
    let ds = c.args.whole.now ++ c.args.fraction.now in
    let n = digits_value 10 ds in
    let down = length c.args.fraction.now in
    let quotient = c.quotient_of.result in
    let here : IsQuotient (n * 10 ^ c.args.digits) (10 ^ (down + c.args.size)) quotient = c.quotient_of.ensures in
    let below : n < 10 ^ length ds = digits_value-lt 10 ds (AllDigits-append c.args.whole.now c.args.fraction.now c.requires.whole c.requires.fraction) in
    let far : length ds + c.args.digits < down + (2 ^ 64 - 1) = omega (arith, length-append c.args.whole.now c.args.fraction.now) in
    rw (c.if-negative.true, add-zero) (lowered_enough n (length ds) c.args.digits c.args.size e down quotient below size far here)

pub returns-else-negative : goal.returns-else-negative
returns-else-negative c = λ e size.
    let n = digits_value 10 (c.args.whole.now ++ c.args.fraction.now) in
    let down = length c.args.fraction.now in
    let quotient = c.quotient_of-else-negative.result in
    let here : IsQuotient (n * 10 ^ (c.args.digits + c.args.size)) (10 ^ down) quotient = c.quotient_of-else-negative.ensures in
    rw (c.if-negative.false, add-zero) (raised_enough n c.args.digits c.args.size e down quotient size (omega arith) here)
