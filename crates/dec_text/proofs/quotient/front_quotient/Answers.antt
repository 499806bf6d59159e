use Rattle.std.proofs.Common.{◌≡◌, ◌+◌, ◌-◌, ◌^◌, ◌++◌, min, ltb, length, take, drop, sym, ap, ◌∙◌, subst, arith, length-append}
use Rattle.std.specs.Str.Parse.{AllDigits, digits_value}
use Rattle.dec_text.proofs.Digits.{AllDigits-take, AllDigits-drop, AllDigits-append}
use Rattle.dec_text.proofs.TwoPieces.{take-both, drop-both}
use Rattle.dec_text.proofs.Quotients.{front_is_quotient}
use Rattle.dec_text.proofs.quotient.front_quotient.Goals as goal

pub number_of_pieces-requires-clause-front : goal.number_of_pieces-requires-clause-front
number_of_pieces-requires-clause-front c = subst (AllDigits 10) (sym c.split_at.ensures.front) (AllDigits-take _ c.args.whole.now c.requires.whole)

pub number_of_pieces-requires-clause-back : goal.number_of_pieces-requires-clause-back
number_of_pieces-requires-clause-back c = subst (AllDigits 10) (sym c.split_at-2.ensures.front) (AllDigits-take _ c.args.fraction.now c.requires.fraction)

pub is_above_zero-requires-clause-front : goal.is_above_zero-requires-clause-front
is_above_zero-requires-clause-front c = subst (AllDigits 10) (sym c.split_at.ensures.back) (AllDigits-drop _ c.args.whole.now c.requires.whole)

pub is_above_zero-requires-clause-back : goal.is_above_zero-requires-clause-back
is_above_zero-requires-clause-back c = subst (AllDigits 10) (sym c.split_at-2.ensures.back) (AllDigits-drop _ c.args.fraction.now c.requires.fraction)

pub returns : goal.returns
returns c =
    let whole = c.args.whole.now in
    let fraction = c.args.fraction.now in
    let count = c.args.count in
    let back : count - length c.split_at.result.0.now ≡ count - c.min.result = omega (arith, c.split_at.ensures.front_len) in
    let front : c.split_at.result.0.now ++ c.split_at-2.result.0.now ≡ take count (whole ++ fraction) =
    (λ i. c.split_at.ensures.front i ++ c.split_at-2.ensures.front i) ∙ take-both count c.min.result (count - length c.split_at.result.0.now) whole fraction c.min.ensures back in
    let rest : c.split_at.result.1.now ++ c.split_at-2.result.1.now ≡ drop count (whole ++ fraction) =
    (λ i. c.split_at.ensures.back i ++ c.split_at-2.ensures.back i) ∙ drop-both count c.min.result (count - length c.split_at.result.0.now) whole fraction c.min.ensures back in
    front_is_quotient (whole ++ fraction) count (length whole + length fraction - count) _ (AllDigits-append whole fraction c.requires.whole c.requires.fraction)
    (omega (arith, length-append whole fraction)) (omega (arith, length-append whole fraction))
    (c.number_of_pieces.ensures ∙ ap (λ ds. min (digits_value 10 ds) (2 ^ 64 - 1)) front) c.is_half.ensures
    (c.is_above_zero.ensures ∙ ap (λ ds. ltb 0 (digits_value 10 ds)) rest)
