-- A list with a valid candidate has a first least one.
use Rattle.std.proofs.Common.{◌≡◌, ℤ, pos, ◌*ℤ◌, ◌≤ℤ◌, Bool, true, false, List, [], ◌∷◌, ◌⊎◌, inl, inr, refl, arith}
use Rattle.std.specs.Prelude.{All, Some, None}
use Rattle.std.proofs.lemmas.Int.{ints, by_lt_z}
use Rattle.std.proofs.lemmas.List.Elements.{All-cons, All-nil, All-weaker}
use Rattle.space3.specs.declared.vectors.V3.{V3}
use Rattle.nearest.specs.Candidates.{Candidate, IsValid, IsAtMost, IsBelow, IsFirstLeast, is_valid}
use Rattle.nearest.specs.PointAndTriangle.{corner_candidate, triangle_candidates}
use Rattle.nearest.specs.TwoEdges.{edges_candidates, second_alone}
use Rattle.nearest.specs.Feet.{points_candidate}
use Rattle.nearest.proofs.FirstFound.{valid_said, valid_tested}
use Rattle.nearest.proofs.FirstLeast.{head_passed, head_taken}
use Rattle.nearest.proofs.TakenBounds.{one_positive, valid_by}

abbrev NoneIsValid : List Candidate → Type 0
NoneIsValid cs = All (λ c. ¬ IsValid c) cs

abbrev HasFirstLeast : List Candidate → Type 0
HasFirstLeast cs = (k : Candidate) × IsFirstLeast cs k

-- a test that failed
not_valid : (k : Candidate) → is_valid k ≡ false → ¬ IsValid k
not_valid k e valid = let tested : is_valid k ≡ true = valid_tested k valid in cc

-- the first valid one, where no later one is
first_valid : (k : Candidate) (cs : List Candidate) → IsValid k → NoneIsValid cs → IsFirstLeast (k ∷ cs) k
first_valid k cs valid none = record {
  place = 0;
  there = refl;
  valid = valid;
  least = All-cons (λ other. IsValid other → IsAtMost k other) k cs (λ _. itself (k.num *ℤ k.den))
      (All-weaker (λ c. ¬ IsValid c) (λ other. IsValid other → IsAtMost k other) (λ other h o. absurd (h o)) cs none);
  first = All-nil (λ other. IsValid other → IsBelow k other);
}
  where
    itself : (z : ℤ) → z ≤ℤ z
    itself z = omega (arith, ints)

-- one more at the head
with_head : (k : Candidate) (cs : List Candidate) → (valid : Bool) → is_valid k ≡ valid → HasFirstLeast cs ⊎ NoneIsValid cs → HasFirstLeast (k ∷ cs) ⊎ NoneIsValid (k ∷ cs)
with_head k cs true e (inl (j, first)) =
    by_lt_z (j.num *ℤ k.den) (k.num *ℤ j.den)
    (λ below. inl (j, head_passed k j cs first (λ _. below)))
    (λ at_most. inl (k, head_taken k j cs (valid_said k e) first at_most))
with_head k cs true e (inr none) = inl (k, first_valid k cs (valid_said k e) none)
with_head k cs false e (inl (j, first)) = inl (j, head_passed k j cs first (λ valid. absurd (not_valid k e valid)))
with_head k cs false e (inr none) = inr (All-cons (λ c. ¬ IsValid c) k cs (not_valid k e) none)

first_or_none : (cs : List Candidate) → HasFirstLeast cs ⊎ NoneIsValid cs
first_or_none [] = inr (All-nil (λ c. ¬ IsValid c))
first_or_none (k ∷ cs) = with_head k cs (is_valid k) refl (first_or_none cs)

-- a corner is always a candidate
pub some_taken_vt : (p a b c : V3) → HasFirstLeast (triangle_candidates p a b c)
some_taken_vt p a b c =
    let corner = corner_candidate p c (None ∷ None ∷ Some (pos 1) ∷ []) in
    elim (first_or_none (triangle_candidates p a b c)) [
      | inl found ↦ found
      | inr none ↦ absurd (none 6 corner (omega arith) (valid_by corner one_positive (one_positive, (tt, (tt, (one_positive, tt))))))
    ]

pub some_taken_ee : (a0 a1 b0 b1 : V3) → HasFirstLeast (edges_candidates a0 a1 b0 b1)
some_taken_ee a0 a1 b0 b1 =
    let corner = points_candidate a1 b1 (second_alone (pos 1)) (second_alone (pos 1)) in
    elim (first_or_none (edges_candidates a0 a1 b0 b1)) [
      | inl found ↦ found
      | inr none ↦ absurd (none 8 corner (omega arith) (valid_by corner one_positive (tt, (one_positive, (tt, (one_positive, tt))))))
    ]
