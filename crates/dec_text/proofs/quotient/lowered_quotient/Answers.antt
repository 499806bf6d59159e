use Rattle.std.proofs.Common.{◌++◌, length, refl, arith, length-append}
use Rattle.std.proofs.lemmas.Int.Digits.{digits_value-lt}
use Rattle.std.specs.Str.Parse.{digits_value}
use Rattle.dec_text.proofs.Digits.{AllDigits-append}
use Rattle.dec_text.proofs.Quotients.{far_quotient}
use Rattle.dec_text.proofs.quotient.lowered_quotient.Goals as goal

pub returns-else-tens-count : goal.returns-else-tens-count
returns-else-tens-count c =
    let ds = c.args.whole.now ++ c.args.fraction.now in
    far_quotient (digits_value 10 ds) (length ds) c.args.tens _ (digits_value-lt 10 ds (AllDigits-append _ _ c.requires.whole c.requires.fraction))
    (omega (arith, length-append c.args.whole.now c.args.fraction.now)) refl refl c.is_above_zero.ensures
