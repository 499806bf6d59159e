use Rattle.std.proofs.Common.{◌∙◌, sym, subst}
use Rattle.std.specs.Prelude.{Bool, IsTrue, ◌↔◌}
use Rattle.space3.specs.Boxes.{are_within}
use Rattle.safe_motion.specs.SweptBoxes.{SweptBoxesTouch, both_ends}
use Rattle.pair_cert.specs.Parts.{moves_of}
use Rattle.pair_cert.proofs.SweptBoxes.{touching}
use Rattle.pair_cert.proofs.swept_boxes.do_swept_boxes_touch.Goals as goal

pub returns : goal.returns
returns c =
    let xs = moves_of c.args.a.now in
    let ys = moves_of c.args.b.now in
    subst (λ (b : Bool). IsTrue b ↔ SweptBoxesTouch xs ys) (sym (c.are_within.ensures ∙ (λ t. are_within 0 (c.swept_box.ensures.value t) (c.swept_box-2.ensures.value t))))
    (touching (both_ends xs) (both_ends ys) c.swept_box.ensures.some c.swept_box-2.ensures.some)
