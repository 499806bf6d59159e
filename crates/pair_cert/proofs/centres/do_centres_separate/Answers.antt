use Rattle.std.proofs.Common.{List, subst, arith}
use Rattle.space3.specs.declared.vectors.V3.{V3}
use Rattle.space3.specs.Spots.{points}
use Rattle.safe_motion.specs.Meeting.{Separates}
use Rattle.pair_cert.proofs.SeparatedEnds.{served_by_ends}
use Rattle.pair_cert.proofs.centres.do_centres_separate.Goals as goal

pub returns-then-does_separate : goal.returns-then-does_separate
returns-then-does_separate c = λ t.
    let a = c.args.a.now in
    let b = c.args.b.now in
    let n = c.between_centres-n.result in
    served_by_ends n (points a.start) (points b.start) (points a.end) (points b.end)
    (omega (arith, c.points.ensures.count, c.points-then-does_separate.ensures.count, a.as_many))
    (omega (arith, c.points-2.ensures.count, c.points-then-does_separate-2.ensures.count, b.as_many))
    (subst (λ (xs : List V3). Separates n xs (points b.start)) c.points.ensures.value (subst (λ (ys : List V3). Separates n c.points.result.now ys) c.points-2.ensures.value (c.does_separate.ensures c.if-does_separate.true)))
    (subst (λ (xs : List V3). Separates n xs (points b.end)) c.points-then-does_separate.ensures.value (subst (λ (ys : List V3). Separates n c.points-then-does_separate.result.now ys) c.points-then-does_separate-2.ensures.value (c.does_separate-then-does_separate.ensures t)))
