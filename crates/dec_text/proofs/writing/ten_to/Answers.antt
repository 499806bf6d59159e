use Rattle.std.proofs.Common.{◌<◌, sym, subst}
use Rattle.dec_text.proofs.Digits.{ten_pos}
use Rattle.dec_text.proofs.writing.ten_to.Goals as goal

pub returns-clause-positive : goal.returns-clause-positive
returns-clause-positive c = subst (λ n. 0 < n) (sym c.pow.ensures) (ten_pos c.args.places)
