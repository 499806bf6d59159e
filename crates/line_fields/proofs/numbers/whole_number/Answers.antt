use Rattle.std.proofs.Common.{◌∙◌, sym, arith}
use Rattle.line_fields.proofs.Numerals.{whole_of-none, whole_of-small, whole_of-large}
use Rattle.line_fields.proofs.numbers.whole_number.Goals as goal

pub returns-in_err-number-clause-value : goal.returns-in_err-number-clause-value
returns-in_err-number-clause-value c = c.from_residual.ensures ∙ sym (whole_of-none c.args.field.now (sym c.in_err-number.ensures.value))

pub returns-then-number-from-clause-value : goal.returns-then-number-from-clause-value
returns-then-number-from-clause-value c = sym (whole_of-small c.args.field.now c.in_ok-number.number (sym c.in_ok-number.ensures.value) (omega (arith, c.if-number-from.true, c.from.ensures)))

pub returns-else-number-from-clause-value : goal.returns-else-number-from-clause-value
returns-else-number-from-clause-value c = sym (whole_of-large c.args.field.now c.in_ok-number.number (sym c.in_ok-number.ensures.value) (omega (arith, c.if-number-from.false, c.from.ensures)))
