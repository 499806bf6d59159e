use Rattle.dec_text.proofs.TwoPieces.{either_true, either_false, list_any-both}
use Rattle.dec_text.proofs.quotient.is_above_zero.Goals as goal

pub returns-then-has_other_than_zero : goal.returns-then-has_other_than_zero
returns-then-has_other_than_zero c =
    either_true _ _ _ _ c.if-has_other_than_zero.true c.has_other_than_zero.ensures (list_any-both c.args.front.now c.args.back.now c.requires.front c.requires.back)

pub returns-else-has_other_than_zero : goal.returns-else-has_other_than_zero
returns-else-has_other_than_zero c =
    either_false _ _ _ _ _ c.if-has_other_than_zero.false c.has_other_than_zero.ensures c.has_other_than_zero-else-has_other_than_zero.ensures (list_any-both c.args.front.now c.args.back.now c.requires.front c.requires.back)
