-- The rounded weights of the candidate that is taken.
use Rattle.std.proofs.Common.{◌≡◌, ℕ, List, [], ◌∷◌, length, refl, subst}
use Rattle.std.specs.Prelude.{All}
use Rattle.std.proofs.lemmas.List.Elements.{All-from_recursion}
use Rattle.space3.specs.declared.vectors.V3.{V3}
use Rattle.nearest.specs.Candidates.{Candidate, IsFirstLeast}
use Rattle.nearest.specs.Distances.{IsDistance}
use Rattle.nearest.specs.PointAndTriangle.{triangle_candidates}
use Rattle.nearest.specs.TwoEdges.{edges_candidates}
use Rattle.nearest.specs.RoundedWeights.{rounded_weights, AreOfTwoParts}
use Rattle.nearest.proofs.Coefficients.{of_two_parts}
use Rattle.nearest.proofs.OfPoints.{each_vt, each_ee}
use Rattle.nearest.proofs.OneTaken.{at_place}

-- the first part has so many points
abbrev HasFirst : ℕ → Candidate → Type 0
HasFirst split k = length k.left ≡ split

two_parts : (split : ℕ) (xs ys : List V3) (cs : List Candidate) (k : Candidate) → All (λ c. IsDistance c xs ys) cs → All (HasFirst split) cs → IsFirstLeast cs k → AreOfTwoParts split (rounded_weights k)
two_parts split xs ys cs k each first f =
    let d = at_place (λ c. IsDistance c xs ys) cs f.place k f.there each in
    subst (λ n. AreOfTwoParts n (rounded_weights k)) (at_place (HasFirst split) cs f.place k f.there first) (of_two_parts k f.valid d.left d.right)

pub two_parts_vt : (p a b c : V3) (k : Candidate) → IsFirstLeast (triangle_candidates p a b c) k → AreOfTwoParts 1 (rounded_weights k)
two_parts_vt p a b c k =
    two_parts 1 (p ∷ []) (a ∷ b ∷ c ∷ []) (triangle_candidates p a b c) k (each_vt p a b c)
    (All-from_recursion (HasFirst 1) (triangle_candidates p a b c) (refl, (refl, (refl, (refl, (refl, (refl, (refl, tt))))))))

pub two_parts_ee : (a0 a1 b0 b1 : V3) (k : Candidate) → IsFirstLeast (edges_candidates a0 a1 b0 b1) k → AreOfTwoParts 2 (rounded_weights k)
two_parts_ee a0 a1 b0 b1 k =
    two_parts 2 (a0 ∷ a1 ∷ []) (b0 ∷ b1 ∷ []) (edges_candidates a0 a1 b0 b1) k (each_ee a0 a1 b0 b1)
    (All-from_recursion (HasFirst 2) (edges_candidates a0 a1 b0 b1) (refl, (refl, (refl, (refl, (refl, (refl, (refl, (refl, (refl, tt))))))))))
