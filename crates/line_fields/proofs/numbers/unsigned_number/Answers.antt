use Rattle.std.proofs.Common.{◌∙◌, ap, sym, Some}
use Rattle.line_fields.proofs.Numerals.{unsigned_of-number, unsigned_of-no_number}
use Rattle.line_fields.proofs.numbers.unsigned_number.Goals as goal

pub returns-then-is_unsigned-clause-value : goal.returns-then-is_unsigned-clause-value
returns-then-is_unsigned-clause-value c = ap Some c.value_of.ensures.value ∙ sym (unsigned_of-number c.args.field.now (sym c.if-is_unsigned.ensures))

pub returns-else-is_unsigned-clause-value : goal.returns-else-is_unsigned-clause-value
returns-else-is_unsigned-clause-value c = sym (unsigned_of-no_number c.args.field.now (sym c.if-is_unsigned.ensures))
