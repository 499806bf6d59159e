use Rattle.std.proofs.Common.{◌∙◌}
use Rattle.nearest.specs.TwoEdges.{inner_by, inner_candidate, end_candidates, edges_candidates}
use Rattle.nearest.proofs.InsideTaken.{inner_taken}
use Rattle.near_pair.specs.Calls.Choices.{inner_of}
use Rattle.near_pair.proofs.Answered.{by_inside, by_rest}
use Rattle.near_pair.proofs.Choosing.{not_true}
use Rattle.near_pair.proofs.edges.nearest_of_edges.Goals as goal

pub returns-then-is_inside-clause-answer : goal.returns-then-is_inside-clause-answer
returns-then-is_inside-clause-answer c =
    λ a0 a1 b0 b1 w. by_inside c.near_inside.result (inner_candidate a0 a1 b0 b1) (inner_of c.inner_from-inner.result) (edges_candidates a0 a1 b0 b1)
    (c.inner_from-inner.ensures ∙ (λ i. inner_by (w.a0_to_b0 i) (w.a i) (w.b i))) (inner_taken a0 a1 b0 b1) (c.is_inside.ensures.0 c.if-is_inside.true) c.near_inside.ensures.told

pub returns-clause-answer : goal.returns-clause-answer
returns-clause-answer c =
    λ a0 a1 b0 b1 w. by_rest c.near_found.result c.nearest_with_end.result (inner_candidate a0 a1 b0 b1) (inner_of c.inner_from-inner.result) (end_candidates a0 a1 b0 b1)
    (c.inner_from-inner.ensures ∙ (λ i. inner_by (w.a0_to_b0 i) (w.a i) (w.b i))) (λ valid. not_true c.is_inside.result c.if-is_inside.false (c.is_inside.ensures.1 valid))
    (c.nearest_with_end.ensures a0 a1 b0 b1 w) c.near_found.ensures.num c.near_found.ensures.den c.near_found.ensures.weights
