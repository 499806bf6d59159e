-- The nearest points of a pair have four weights.
use Rattle.std.proofs.Common.{◌≡◌, ◌+◌, ◌≤◌, Bool, true, false, cond, List, [], ◌∷◌, length, Some, refl, arith}
use Rattle.std.specs.Prelude.{All}
use Rattle.std.specs.List.{filter, find, list_all}
use Rattle.std.proofs.lemmas.List.{length-append}
use Rattle.std.proofs.lemmas.List.Elements.{All-filter, All-from_recursion, All-head, All-tail}
use Rattle.space3.specs.declared.vectors.V3.{V3}
use Rattle.nearest.specs.Candidates.{Candidate, is_at_most, is_valid, nearest_in}
use Rattle.nearest.specs.PointAndTriangle.{vt_candidates}
use Rattle.nearest.specs.RoundedWeights.{part_of, rounded_weights}
use Rattle.nearest.specs.TwoEdges.{ee_candidates}
use Rattle.nearest.proofs.Coefficients.{length-part}
use Rattle.near_pair.specs.Answers.{near_between, near_by}

-- a candidate with four weights
abbrev HasFour : Candidate → Type 0
HasFour k = length k.left + length k.right ≡ 4

weights-four : (k : Candidate) → HasFour k → length (rounded_weights k) ≡ 4
weights-four k h = omega (arith, h, length-append (part_of k.den k.left) (part_of k.den k.right), length-part k.den k.left, length-part k.den k.right)

-- what is found of candidates with four weights has at most four
found_few : (test : Candidate → Bool) (cs : List Candidate) → All HasFour cs → length (near_by (find test cs)).weights ≤ 4
found_few test [] h = omega arith
found_few test (k ∷ cs) h = by (test k) (found_few test cs (All-tail HasFour k cs h))
  where
    by : (b : Bool) → length (near_by (find test cs)).weights ≤ 4 → length (near_by (cond b (Some k) (find test cs))).weights ≤ 4
    by true rest = omega (arith, weights-four k (All-head HasFour k cs h))
    by false rest = rest

nearest_few : (cs : List Candidate) → All HasFour cs → length (near_by (nearest_in cs)).weights ≤ 4
nearest_few cs h = let valid = filter is_valid cs in found_few (λ c. list_all (is_at_most c) valid) valid (All-filter is_valid HasFour cs h)

vt_four : (p : V3) (t : List V3) → All HasFour (vt_candidates p t)
vt_four p t = All-from_recursion HasFour (vt_candidates p t) (refl, (refl, (refl, (refl, (refl, (refl, (refl, tt)))))))

ee_four : (a b : List V3) → All HasFour (ee_candidates a b)
ee_four a b = All-from_recursion HasFour (ee_candidates a b) (refl, (refl, (refl, (refl, (refl, (refl, (refl, (refl, (refl, tt)))))))))

-- at most four, whatever the two lists are
pub few_weights : (first second : List V3) → length (near_between first second).weights ≤ 4
few_weights [] second = nearest_few (ee_candidates [] second) (ee_four [] second)
few_weights (p ∷ []) second = nearest_few (vt_candidates p second) (vt_four p second)
few_weights (a ∷ b ∷ xs) second = nearest_few (ee_candidates (a ∷ b ∷ xs) second) (ee_four (a ∷ b ∷ xs) second)
