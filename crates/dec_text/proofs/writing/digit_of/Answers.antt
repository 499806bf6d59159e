use Rattle.std.proofs.Common.{arith}
use Rattle.std.proofs.lemmas.Nat.{div_below}
use Rattle.dec_text.proofs.writing.digit_of.Goals as goal

pub overflow_cast-result : goal.overflow_cast-result
overflow_cast-result c = omega (arith, div_below c.args.number c.args.unit 10 c.requires.unit c.requires.below)

pub overflow_add-result : goal.overflow_add-result
overflow_add-result c = omega (arith, div_below c.args.number c.args.unit 10 c.requires.unit c.requires.below)
