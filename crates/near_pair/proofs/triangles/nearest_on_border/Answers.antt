use Rattle.std.proofs.Common.{[], ◌∷◌, pos, ◌∙◌, ap}
use Rattle.std.specs.Prelude.{Some, None}
use Rattle.space3.specs.Vectors.{squared_length}
use Rattle.nearest.specs.Feet.{foot_on, foot_by}
use Rattle.nearest.specs.PointAndTriangle.{corner_candidate}
use Rattle.nearest.proofs.TakenBounds.{valid_by, one_positive}
use Rattle.near_pair.specs.declared.found.Side.TheVariants.{Ab, Ac, Bc}
use Rattle.near_pair.specs.Calls.Ways.{foot_of}
use Rattle.near_pair.proofs.Choosing.{found_alone, found_side}
use Rattle.near_pair.proofs.triangles.nearest_on_border.Goals as goal

pub returns : goal.returns
returns c = λ p a b d w.
    let corner_a = corner_candidate p a (Some (pos 1) ∷ None ∷ None ∷ []) in
    let corner_b = corner_candidate p b (None ∷ Some (pos 1) ∷ None ∷ []) in
    let corner_c = corner_candidate p d (None ∷ None ∷ Some (pos 1) ∷ []) in
    let valid_a = valid_by corner_a one_positive (one_positive, (one_positive, (tt, (tt, tt)))) in
    let valid_b = valid_by corner_b one_positive (one_positive, (tt, (one_positive, (tt, tt)))) in
    let valid_c = valid_by corner_c one_positive (one_positive, (tt, (tt, (one_positive, tt)))) in
    let at_c = found_alone c.alone-at_c.result corner_c valid_c (record { num = c.alone-at_c.ensures.num ∙ ap squared_length w.from_c; den = c.alone-at_c.ensures.den; weights = c.alone-at_c.ensures.weights }) in
    let at_b = c.earlier-at_b.ensures corner_b (corner_c ∷ []) valid_b (record { num = c.alone.ensures.num ∙ ap squared_length w.from_b; den = c.alone.ensures.den; weights = c.alone.ensures.weights }) at_c in
    let at_a = c.earlier-at_a.ensures corner_a (corner_b ∷ corner_c ∷ []) valid_a (record { num = c.alone-2.ensures.num ∙ ap squared_length w.from_a; den = c.alone-2.ensures.den; weights = c.alone-2.ensures.weights }) at_b in
    let on_bc = found_side Bc (foot_of c.foot_from.result) (foot_on p b d) c.with_edge-on_bc.result _ (c.foot_from.ensures ∙ (λ i. foot_by (w.from_b i) (w.bc i))) (c.with_edge-on_bc.ensures _ at_a) in
    let on_ac = found_side Ac (foot_of c.foot_from-2.result) (foot_on p a d) c.with_edge-on_ac.result _ (c.foot_from-2.ensures ∙ (λ i. foot_by (w.from_a i) (w.ac i))) (c.with_edge-on_ac.ensures _ on_bc) in
    found_side Ab (foot_of c.foot_from-3.result) (foot_on p a b) c.with_edge.result _ (c.foot_from-3.ensures ∙ (λ i. foot_by (w.from_a i) (w.ab i))) (c.with_edge.ensures _ on_ac)
