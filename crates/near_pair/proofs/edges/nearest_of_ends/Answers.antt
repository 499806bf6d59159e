use Rattle.std.proofs.Common.{[], ◌∷◌, pos, ◌∙◌, ap}
use Rattle.space3.specs.Vectors.{squared_length}
use Rattle.nearest.specs.Feet.{points_candidate}
use Rattle.nearest.specs.TwoEdges.{first_alone, second_alone}
use Rattle.nearest.proofs.TakenBounds.{valid_by, one_positive}
use Rattle.near_pair.proofs.Choosing.{found_alone}
use Rattle.near_pair.proofs.edges.nearest_of_ends.Goals as goal

pub returns : goal.returns
returns c = λ a0 a1 b0 b1 w.
    let k00 = points_candidate a0 b0 (first_alone (pos 1)) (first_alone (pos 1)) in
    let k01 = points_candidate a0 b1 (first_alone (pos 1)) (second_alone (pos 1)) in
    let k10 = points_candidate a1 b0 (second_alone (pos 1)) (first_alone (pos 1)) in
    let k11 = points_candidate a1 b1 (second_alone (pos 1)) (second_alone (pos 1)) in
    let at_11 = found_alone c.alone-at_11.result k11 (valid_by k11 one_positive (tt, (one_positive, (tt, (one_positive, tt)))))
    (record { num = c.alone-at_11.ensures.num ∙ ap squared_length w.b1_to_a1; den = c.alone-at_11.ensures.den; weights = c.alone-at_11.ensures.weights }) in
    let at_10 = c.earlier-at_10.ensures k10 (k11 ∷ []) (valid_by k10 one_positive (tt, (one_positive, (one_positive, (tt, tt)))))
    (record { num = c.alone.ensures.num ∙ ap squared_length w.b0_to_a1; den = c.alone.ensures.den; weights = c.alone.ensures.weights }) at_11 in
    let at_01 = c.earlier-at_01.ensures k01 (k10 ∷ k11 ∷ []) (valid_by k01 one_positive (one_positive, (tt, (tt, (one_positive, tt)))))
    (record { num = c.alone-2.ensures.num ∙ ap squared_length w.b1_to_a0; den = c.alone-2.ensures.den; weights = c.alone-2.ensures.weights }) at_10 in
    c.earlier.ensures k00 (k01 ∷ k10 ∷ k11 ∷ []) (valid_by k00 one_positive (one_positive, (tt, (one_positive, (tt, tt)))))
    (record { num = c.alone-3.ensures.num ∙ ap squared_length w.b0_to_a0; den = c.alone-3.ensures.den; weights = c.alone-3.ensures.weights }) at_01
