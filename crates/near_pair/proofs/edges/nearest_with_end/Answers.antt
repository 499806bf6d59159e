use Rattle.std.proofs.Common.{◌∙◌}
use Rattle.nearest.specs.Feet.{foot_on, foot_by}
use Rattle.near_pair.specs.declared.found.Side.TheVariants.{FromA0, FromA1, FromB0, FromB1}
use Rattle.near_pair.specs.Calls.Ways.{foot_of}
use Rattle.near_pair.proofs.Choosing.{found_side}
use Rattle.near_pair.proofs.edges.nearest_with_end.Goals as goal

pub returns : goal.returns
returns c = λ a0 a1 b0 b1 w.
    let at_ends = c.nearest_of_ends-at_ends.ensures a0 a1 b0 b1 w in
    let from_b1 = found_side FromB1 (foot_of c.foot_from.result) (foot_on b1 a0 a1) c.with_edge-from_b1.result _ (c.foot_from.ensures ∙ (λ i. foot_by (w.a0_to_b1 i) (w.a i))) (c.with_edge-from_b1.ensures _ at_ends) in
    let from_b0 = found_side FromB0 (foot_of c.foot_from-2.result) (foot_on b0 a0 a1) c.with_edge-from_b0.result _ (c.foot_from-2.ensures ∙ (λ i. foot_by (w.a0_to_b0 i) (w.a i))) (c.with_edge-from_b0.ensures _ from_b1) in
    let from_a1 = found_side FromA1 (foot_of c.foot_from-3.result) (foot_on a1 b0 b1) c.with_edge-from_a1.result _ (c.foot_from-3.ensures ∙ (λ i. foot_by (w.b0_to_a1 i) (w.b i))) (c.with_edge-from_a1.ensures _ from_b0) in
    found_side FromA0 (foot_of c.foot_from-4.result) (foot_on a0 b0 b1) c.with_edge.result _ (c.foot_from-4.ensures ∙ (λ i. foot_by (w.b0_to_a0 i) (w.b i))) (c.with_edge.ensures _ from_a1)
