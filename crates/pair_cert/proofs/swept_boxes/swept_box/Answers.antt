use Rattle.std.proofs.Common.{◌∙◌, arith}
use Rattle.space3.specs.Boxes.{box_around, box_of}
use Rattle.space3.specs.Spots.{points}
use Rattle.pair_cert.proofs.SweptBoxes.{some_ends, swept-box}
use Rattle.pair_cert.proofs.swept_boxes.swept_box.Goals as goal

pub returns-clause-value : goal.returns-clause-value
returns-clause-value c =
    let part = c.args.part.now in
    c.box_around.ensures
    ∙ (λ t. box_around (c.box_of.ensures t) (c.box_of-2.ensures t))
    ∙ (λ t. box_around (box_of (c.points.ensures.value t)) (box_of (c.points-2.ensures.value t)))
    ∙ swept-box (points part.start) (points part.end) (omega (arith, c.points.ensures.count, c.points-2.ensures.count, part.as_many)) (omega (arith, c.points.ensures.count, part.start.some))

pub returns-clause-some : goal.returns-clause-some
returns-clause-some c =
    let part = c.args.part.now in
    some_ends (points part.start) (points part.end) (omega (arith, c.points.ensures.count, c.points-2.ensures.count, part.as_many)) (omega (arith, c.points.ensures.count, part.start.some))
