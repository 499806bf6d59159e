use Rattle.std.proofs.Common.{◌∙◌}
use Rattle.nearest.specs.PointAndTriangle.{face_by, face_candidate, border_candidates, triangle_candidates}
use Rattle.nearest.proofs.InsideTaken.{face_taken}
use Rattle.near_pair.specs.Calls.Choices.{face_of}
use Rattle.near_pair.proofs.Answered.{by_inside, by_rest}
use Rattle.near_pair.proofs.Choosing.{not_true}
use Rattle.near_pair.proofs.triangles.nearest_of_triangle.Goals as goal

pub returns-then-is_inside-clause-answer : goal.returns-then-is_inside-clause-answer
returns-then-is_inside-clause-answer c =
    λ p a b d w. by_inside c.near_inside.result (face_candidate p a b d) (face_of c.face_from-face.result) (triangle_candidates p a b d)
    (c.face_from-face.ensures ∙ (λ i. face_by (w.from_a i) (w.ab i) (w.ac i))) (face_taken p a b d) (c.is_inside.ensures.0 c.if-is_inside.true) c.near_inside.ensures.told

pub returns-clause-answer : goal.returns-clause-answer
returns-clause-answer c =
    λ p a b d w. by_rest c.near_found.result c.nearest_on_border.result (face_candidate p a b d) (face_of c.face_from-face.result) (border_candidates p a b d)
    (c.face_from-face.ensures ∙ (λ i. face_by (w.from_a i) (w.ab i) (w.ac i))) (λ valid. not_true c.is_inside.result c.if-is_inside.false (c.is_inside.ensures.1 valid))
    (c.nearest_on_border.ensures p a b d w) c.near_found.ensures.num c.near_found.ensures.den c.near_found.ensures.weights
