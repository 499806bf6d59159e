-- The examples, computed.
use Rattle.std.proofs.Common.{pos, ◌<ℤ◌, take, refl, arith}
use Rattle.std.proofs.lemmas.Int.{ints}
use Rattle.std.proofs.lemmas.List.Elements.{All-from_recursion}
use Rattle.nearest.specs.Candidates.{IsValid, IsAtMost, IsBelow, IsFirstLeast}
use Rattle.nearest.specs.PointAndTriangle.{vt_candidates}
use Rattle.nearest.specs.TwoEdges.{ee_candidates}
use Rattle.nearest.specs.Examples.{flat_triangle, from_first_end, high_edge, high_point, low_edge, over_triangle}
use Rattle.space3.specs.Mesh.{place_of}
use Rattle.nearest.proofs.InsideTaken.{face_taken}
use Rattle.nearest.proofs.TakenBounds.{valid_by}

pub over : IsFirstLeast (vt_candidates high_point flat_triangle) (over_triangle high_point flat_triangle)
over =
    face_taken high_point (place_of flat_triangle 0) (place_of flat_triangle 1) (place_of flat_triangle 2)
    (valid_by (over_triangle high_point flat_triangle) (record { lt = tt }) (record { lt = tt }, (record { lt = tt }, (record { lt = tt }, (record { lt = tt }, tt)))))

no_divisor : pos 0 <ℤ pos 0 → ⊥
no_divisor h = omega (arith, ints)

pub parallel : IsFirstLeast (ee_candidates low_edge high_edge) (from_first_end low_edge high_edge)
parallel =
    let k = from_first_end low_edge high_edge in record {
      place = 1;
      there = refl;
      valid = valid_by k (record { lt = tt }) (record { lt = tt }, (tt, (record { lt = tt }, (record { lt = tt }, tt))));
      least = All-from_recursion (λ other. IsValid other → IsAtMost k other) (ee_candidates low_edge high_edge)
          (λ v. record { le = tt }, (λ v. record { le = tt }, (λ v. record { le = tt }, (λ v. record { le = tt }, (λ v. record { le = tt }, (λ v. record { le = tt }, (λ v. record { le = tt }, (λ v. record { le = tt }, (λ v. record { le = tt }, tt)))))))));
      first = All-from_recursion (λ other. IsValid other → IsBelow k other) (take 1 (ee_candidates low_edge high_edge)) (λ v. absurd (no_divisor v.divisor), tt);
    }
