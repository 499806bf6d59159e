-- From what the code found to the first least candidate.
use Rattle.std.proofs.Common.{◌≡◌, ℕ, ℤ, pos, List, [], ◌∷◌, length, unsigned_abs, Some, sym, ap, ◌∙◌, subst, arith}
use Rattle.space3.specs.declared.vectors.V3.{V3}
use Rattle.nearest.specs.Candidates.{Candidate, IsValid, IsFirstLeast, nearest_in}
use Rattle.nearest.specs.Hulls.{NoneIsNearer}
use Rattle.nearest.specs.PointAndTriangle.{vt_candidates}
use Rattle.nearest.specs.RoundedWeights.{rounded_weights, AreOfTwoParts}
use Rattle.nearest.specs.TwoEdges.{ee_candidates}
use Rattle.nearest.proofs.FirstFound.{first_found}
use Rattle.nearest.proofs.FirstLeast.{head_passed}
use Rattle.nearest.proofs.TriangleLaw.{nearest_vt}
use Rattle.nearest.proofs.EdgesLaw.{nearest_ee}
use Rattle.nearest.proofs.TakenWeights.{two_parts_vt, two_parts_ee}
use Rattle.near_pair.specs.declared.near.Near.{Near}
use Rattle.near_pair.specs.declared.found.Found.{Found}
use Rattle.near_pair.specs.Answers.{Tells, IsFirstLeastOf, near_by, near_between}
use Rattle.near_pair.specs.Calls.Choices.{IsFound}

-- the first candidate, where it is valid
pub by_inside : (near : Near) (k f : Candidate) (cs : List Candidate) → f ≡ k → (IsValid k → IsFirstLeast cs k) → IsValid f → Tells near f → IsFirstLeastOf cs near
by_inside near k f cs e takes valid told = record { candidate = k; taken = takes (subst IsValid e valid); told = subst (Tells near) e told }

-- another, where the first isn't valid
pub by_rest : (near : Near) (found : Found) (k f : Candidate) (cs : List Candidate) → f ≡ k → (IsValid f → ⊥) → IsFound found cs →
    pos near.num ≡ found.num.raw → pos near.den ≡ found.den.raw → near.weights ≡ found.weights → IsFirstLeastOf (k ∷ cs) near
by_rest near found k f cs e outside rest n d w = record {
  candidate = rest.candidate;
  taken = head_passed k rest.candidate cs rest.taken (λ valid. absurd (outside (subst IsValid (sym e) valid)));
  told = record { num = n ∙ rest.tells.num; den = d ∙ rest.tells.den; weights = w ∙ rest.tells.weights };
}

-- the answer's numbers are those of the candidate, which is nearest
none_nearer : (near : Near) (k : Candidate) (xs ys : List V3) → Tells near k → NoneIsNearer k.num k.den xs ys → NoneIsNearer (pos near.num) (pos near.den) xs ys
none_nearer near k xs ys told h =
    subst (λ (n : ℤ). NoneIsNearer n (pos near.den) xs ys) (sym told.num) (subst (λ (d : ℤ). NoneIsNearer k.num d xs ys) (sym told.den) h)

two_parts : (split : ℕ) (near : Near) (k : Candidate) → Tells near k → AreOfTwoParts split (rounded_weights k) → AreOfTwoParts split near.weights
two_parts split near k told h = subst (AreOfTwoParts split) (sym told.weights) h

-- the numbers of the first least candidate, which the search in a list finds
near_found : (candidates : List Candidate) (near : Near) → IsFirstLeastOf candidates near → near ≡ near_by (nearest_in candidates)
near_found candidates near h = told ∙ ap near_by (sym (first_found candidates h.candidate h.taken))
  where
    told : near ≡ near_by (Some h.candidate)
    told = λ i. record { num = unsigned_abs (h.told.num i); den = unsigned_abs (h.told.den i); weights = h.told.weights i }

pub record IsNearestAt (split : ℕ) (near : Near) (xs ys : List V3) : Type 0 where
  pub value : near ≡ near_between xs ys
  pub least : NoneIsNearer (pos near.num) (pos near.den) xs ys
  pub weights : AreOfTwoParts split near.weights

pub nearest_of_lists_vt : (p : V3) (t : List V3) (near : Near) → length t ≡ 3 → IsFirstLeastOf (vt_candidates p t) near → IsNearestAt 1 near (p ∷ []) t
nearest_of_lists_vt p [] near e h = absurd (omega arith)
nearest_of_lists_vt p (a ∷ []) near e h = absurd (omega arith)
nearest_of_lists_vt p (a ∷ b ∷ []) near e h = absurd (omega arith)
nearest_of_lists_vt p (a ∷ b ∷ c ∷ []) near e h = record {
  value = near_found (vt_candidates p (a ∷ b ∷ c ∷ [])) near h;
  least = none_nearer near h.candidate (p ∷ []) (a ∷ b ∷ c ∷ []) h.told (nearest_vt p a b c h.candidate h.taken);
  weights = two_parts 1 near h.candidate h.told (two_parts_vt p a b c h.candidate h.taken);
}
nearest_of_lists_vt p (a ∷ b ∷ c ∷ d ∷ t) near e h = absurd (omega arith)

pub nearest_of_lists_ee : (s t : List V3) (near : Near) → length s ≡ 2 → length t ≡ 2 → IsFirstLeastOf (ee_candidates s t) near → IsNearestAt 2 near s t
nearest_of_lists_ee [] t near e f h = absurd (omega arith)
nearest_of_lists_ee (a ∷ []) t near e f h = absurd (omega arith)
nearest_of_lists_ee (a ∷ b ∷ c ∷ s) t near e f h = absurd (omega arith)
nearest_of_lists_ee (a ∷ b ∷ []) [] near e f h = absurd (omega arith)
nearest_of_lists_ee (a ∷ b ∷ []) (c ∷ []) near e f h = absurd (omega arith)
nearest_of_lists_ee (a ∷ b ∷ []) (c ∷ d ∷ []) near e f h = record {
  value = near_found (ee_candidates (a ∷ b ∷ []) (c ∷ d ∷ [])) near h;
  least = none_nearer near h.candidate (a ∷ b ∷ []) (c ∷ d ∷ []) h.told (nearest_ee a b c d h.candidate h.taken);
  weights = two_parts 2 near h.candidate h.told (two_parts_ee a b c d h.candidate h.taken);
}
nearest_of_lists_ee (a ∷ b ∷ []) (c ∷ d ∷ g ∷ t) near e f h = absurd (omega arith)
