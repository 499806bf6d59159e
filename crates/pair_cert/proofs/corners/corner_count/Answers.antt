use Rattle.std.proofs.Common.{◌∙◌, min, length, sym}
use Rattle.pair_cert.proofs.CornerMoves.{length-moves_of}
use Rattle.pair_cert.proofs.corners.corner_count.Goals as goal

pub returns-clause-moves : goal.returns-clause-moves
returns-clause-moves c = c.min.ensures ∙ (λ t. min (length (c.points.ensures.value t)) (length (c.points-2.ensures.value t))) ∙ sym (length-moves_of c.args.part.now)
