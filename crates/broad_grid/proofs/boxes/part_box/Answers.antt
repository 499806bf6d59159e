use Rattle.std.proofs.Common.{◌∙◌, ap, sym, subst, arith}
use Rattle.space3.specs.Boxes.{box_around, box_of}
use Rattle.box_grid.specs.Near.{LiesInTheBox}
use Rattle.broad_grid.proofs.BoxesInTheBox.{around_in_box, part_box_more, point_in_box}
use Rattle.broad_grid.proofs.boxes.part_box.Goals as goal

pub loop-i-preserved : goal.loop-i-preserved
loop-i-preserved c =
    let point = c.get-in-loop-i.result in
    let of_point = c.box_of.ensures ∙ ap box_of c.from_ref-in-loop-i.ensures.value in
    record {
      some = omega arith;
      around =
          c.box_around-around.ensures
          ∙ (λ i. box_around (c.loop-i.invariant.around i) (of_point i))
          ∙ part_box_more c.args.places.now c.args.nodes.now c.loop-i.i point (omega (arith, c.loop-i.invariant.some))
          c.loop-i-test.true c.get-in-loop-i.ensures.place;
      in_box =
          subst LiesInTheBox (sym c.box_around-around.ensures)
          (around_in_box c.loop-i.around c.box_of.result c.loop-i.invariant.in_box
          (subst LiesInTheBox (sym of_point) (point_in_box point c.get-in-loop-i.ensures.in_box)));
    }
