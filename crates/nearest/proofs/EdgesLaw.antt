-- The candidate that is taken for two edges is nearest.
use Rattle.std.proofs.Common.{◌≡◌, ℕ, ◌+◌, ◌<◌, ℤ, pos, negsuc, ◌+ℤ◌, ◌-ℤ◌, ◌*ℤ◌, ◌≤ℤ◌, ◌<ℤ◌, List, [], ◌∷◌, sym, ◌∙◌, ap, subst, arith}
use Rattle.std.proofs.lemmas.Int.{ints}
use Rattle.std.specs.List.{sum}
use Rattle.std.proofs.lemmas.List.Elements.{recursion_from_All}
use Rattle.space3.specs.declared.vectors.V3.{V3}
use Rattle.space3.specs.Weights.{weighted_sum}
use Rattle.whole_laws.proofs.Ring.{ring, ring_by, v, num, ◌⊕◌, ◌⊖◌, ◌⊗◌}
use Rattle.nearest.specs.Candidates.{Candidate, IsValid, IsAtMost, IsFirstLeast}
use Rattle.nearest.proofs.LowerBounds.{IsUnder}
use Rattle.nearest.proofs.Border.{Every}
use Rattle.nearest.proofs.EdgeBounds.{EdgesNearest, by_insides, by_a0, by_a1, by_b0, by_b1, edge_pair, spread, nearest_of_edges}
use Rattle.nearest.proofs.TakenBounds.{valid_by, taken, by_segment, one_positive, two_of, sum_two}
use Rattle.space3.specs.Vectors.{difference, dot_product, squared_length, vector}
use Rattle.space3.proofs.Combinations.{same_vector}
use Rattle.space3.proofs.VectorForms.{at, components, dot, ◌⊖₃◌}
use Rattle.nearest.specs.Hulls.{AreHullWeights, NoneIsNearer}
use Rattle.nearest.specs.TwoEdges.{edges_candidates}

-- a distance is the same from both sides
turned_under : (S dist : ℤ) (a b : V3) → IsUnder (squared_length (difference b a)) (pos 1) S dist → IsUnder (squared_length (difference a b)) (pos 1) S dist
turned_under S dist a b u =
    let e : squared_length (difference b a) ≡ squared_length (difference a b) = ring (components (a ∷ b ∷ [])) (dot (at 3 ⊖₃ at 0) (at 3 ⊖₃ at 0)) (dot (at 0 ⊖₃ at 3) (at 0 ⊖₃ at 3)) tt in
    subst (λ (z : ℤ). IsUnder z (pos 1) S dist) e u

under_by : (a0 a1 b0 b1 : V3) (k : Candidate) (S dist : ℤ) → IsFirstLeast (edges_candidates a0 a1 b0 b1) k → EdgesNearest a0 a1 b0 b1 S dist → IsUnder k.num k.den S dist
under_by a0 a1 b0 b1 k S dist first (by_insides d wa0 wa1 wb0 wb1 u) =
    let h = recursion_from_All (λ other. IsValid other → IsAtMost k other) (edges_candidates a0 a1 b0 b1) first.least in
    taken k _ S dist first.valid h.0 (valid_by _ d (wa0, (wa1, (wb0, (wb1, tt))))) u
under_by a0 a1 b0 b1 k S dist first (by_a0 n) =
    let h = recursion_from_All (λ other. IsValid other → IsAtMost k other) (edges_candidates a0 a1 b0 b1) first.least in
    by_segment a0 b0 b1 S dist
    (λ f g d u. taken k _ S dist first.valid h.1.0 (valid_by _ d (d, (tt, (f, (g, tt))))) u)
    (λ u. taken k _ S dist first.valid h.1.1.1.1.1.0 (valid_by _ one_positive (one_positive, (tt, (one_positive, (tt, tt))))) u)
    (λ u. taken k _ S dist first.valid h.1.1.1.1.1.1.0 (valid_by _ one_positive (one_positive, (tt, (tt, (one_positive, tt))))) u) n
under_by a0 a1 b0 b1 k S dist first (by_a1 n) =
    let h = recursion_from_All (λ other. IsValid other → IsAtMost k other) (edges_candidates a0 a1 b0 b1) first.least in
    by_segment a1 b0 b1 S dist
    (λ f g d u. taken k _ S dist first.valid h.1.1.0 (valid_by _ d (tt, (d, (f, (g, tt))))) u)
    (λ u. taken k _ S dist first.valid h.1.1.1.1.1.1.1.0 (valid_by _ one_positive (tt, (one_positive, (one_positive, (tt, tt))))) u)
    (λ u. taken k _ S dist first.valid h.1.1.1.1.1.1.1.1.0 (valid_by _ one_positive (tt, (one_positive, (tt, (one_positive, tt))))) u) n
under_by a0 a1 b0 b1 k S dist first (by_b0 n) =
    let h = recursion_from_All (λ other. IsValid other → IsAtMost k other) (edges_candidates a0 a1 b0 b1) first.least in
    by_segment b0 a0 a1 S dist
    (λ f g d u. taken k _ S dist first.valid h.1.1.1.0 (valid_by _ d (f, (g, (d, (tt, tt))))) u)
    (λ u. taken k _ S dist first.valid h.1.1.1.1.1.0 (valid_by _ one_positive (one_positive, (tt, (one_positive, (tt, tt))))) (turned_under S dist a0 b0 u))
    (λ u. taken k _ S dist first.valid h.1.1.1.1.1.1.1.0 (valid_by _ one_positive (tt, (one_positive, (one_positive, (tt, tt))))) (turned_under S dist a1 b0 u)) n
under_by a0 a1 b0 b1 k S dist first (by_b1 n) =
    let h = recursion_from_All (λ other. IsValid other → IsAtMost k other) (edges_candidates a0 a1 b0 b1) first.least in
    by_segment b1 a0 a1 S dist
    (λ f g d u. taken k _ S dist first.valid h.1.1.1.1.0 (valid_by _ d (f, (g, (tt, (d, tt))))) u)
    (λ u. taken k _ S dist first.valid h.1.1.1.1.1.1.0 (valid_by _ one_positive (one_positive, (tt, (tt, (one_positive, tt))))) (turned_under S dist a0 b1 u))
    (λ u. taken k _ S dist first.valid h.1.1.1.1.1.1.1.1.0 (valid_by _ one_positive (tt, (one_positive, (tt, (one_positive, tt))))) (turned_under S dist a1 b1 u)) n

-- the difference of the weighted sums, at weights i, j and l, m
at_weights : (a0 a1 b0 b1 : V3) (i j l m : ℕ) → i + j ≡ l + m →
    difference (weighted_sum (i ∷ j ∷ []) (a0 ∷ a1 ∷ [])) (weighted_sum (l ∷ m ∷ []) (b0 ∷ b1 ∷ [])) ≡ spread a0 a1 b0 b1 (vector (pos (i + j)) (pos j) (pos m))
at_weights a0 a1 b0 b1 i j l m e = same_vector _ _ (one a0.x a1.x b0.x b1.x) (one a0.y a1.y b0.y b1.y) (one a0.z a1.z b0.z b1.z)
  where
    whole : (i j l m : ℕ) → i + j ≡ l + m → pos i +ℤ pos j ≡ pos l +ℤ pos m
    whole i j l m e = omega (arith, ints)

    one : (p q r s : ℤ) → (pos i *ℤ p +ℤ (pos j *ℤ q +ℤ pos 0)) -ℤ (pos l *ℤ r +ℤ (pos m *ℤ s +ℤ pos 0)) ≡ (pos i +ℤ pos j) *ℤ (p -ℤ r) +ℤ (pos j *ℤ (q -ℤ p) +ℤ pos m *ℤ (r -ℤ s))
    one p q r s =
        ring_by (p ∷ q ∷ r ∷ s ∷ pos i ∷ pos j ∷ pos l ∷ pos m ∷ [])
        ((v 4 ⊗ v 0 ⊕ (v 5 ⊗ v 1 ⊕ num (pos 0))) ⊖ (v 6 ⊗ v 2 ⊕ (v 7 ⊗ v 3 ⊕ num (pos 0))))
        ((v 4 ⊕ v 5) ⊗ (v 0 ⊖ v 2) ⊕ (v 5 ⊗ (v 1 ⊖ v 0) ⊕ v 7 ⊗ (v 2 ⊖ v 3)))
        (v 2) (v 4 ⊕ v 5) (v 6 ⊕ v 7) (whole i j l m e) tt

inside_at : (i j l m : ℕ) → i + j ≡ l + m → Every (λ k. pos 0 ≤ℤ dot_product k (vector (pos (i + j)) (pos j) (pos m))) edge_pair
inside_at i j l m e = (first i j m, (second (i + j) j m, (third i j l m e, (fourth (i + j) j m, tt))))
  where
    first : (i j m : ℕ) → pos 0 ≤ℤ (pos 1 *ℤ pos (i + j) +ℤ negsuc 0 *ℤ pos j +ℤ pos 0 *ℤ pos m)
    first i j m = omega (arith, ints)

    second : (s j m : ℕ) → pos 0 ≤ℤ (pos 0 *ℤ pos s +ℤ pos 1 *ℤ pos j +ℤ pos 0 *ℤ pos m)
    second s j m = omega (arith, ints)

    third : (i j l m : ℕ) → i + j ≡ l + m → pos 0 ≤ℤ (pos 1 *ℤ pos (i + j) +ℤ pos 0 *ℤ pos j +ℤ negsuc 0 *ℤ pos m)
    third i j l m e = omega (arith, ints)

    fourth : (s j m : ℕ) → pos 0 ≤ℤ (pos 0 *ℤ pos s +ℤ pos 0 *ℤ pos j +ℤ pos 1 *ℤ pos m)
    fourth s j m = omega (arith, ints)

pub nearest_ee : (a0 a1 b0 b1 : V3) (k : Candidate) → IsFirstLeast (edges_candidates a0 a1 b0 b1) k → NoneIsNearer k.num k.den (a0 ∷ a1 ∷ []) (b0 ∷ b1 ∷ [])
nearest_ee a0 a1 b0 b1 k first = record { least = λ left right w. at_lists left right w (two_of left w.each_left) (two_of right w.each_right) }
  where
    positive : (l : ℕ) → 0 < l → pos 0 <ℤ pos l
    positive l h = omega (arith, ints)

    at_lists : (left right : List ℕ) → AreHullWeights left right (a0 ∷ a1 ∷ []) (b0 ∷ b1 ∷ []) → (i : ℕ) × (j : ℕ) × (left ≡ i ∷ j ∷ []) → (l : ℕ) × (m : ℕ) × (right ≡ l ∷ m ∷ []) →
        (k.num *ℤ (pos (sum left) *ℤ pos (sum left))) ≤ℤ (k.den *ℤ squared_length (difference (weighted_sum left (a0 ∷ a1 ∷ [])) (weighted_sum right (b0 ∷ b1 ∷ []))))
    at_lists left right w f g =
        let i = f.0 in
        let j = f.1 in
        let l = g.0 in
        let m = g.1 in
        let left_sum : sum left ≡ i + j = ap sum f.2 ∙ sum_two i j in
        let right_sum : sum right ≡ l + m = ap sum g.2 ∙ sum_two l m in
        let e : i + j ≡ l + m = sym left_sum ∙ w.balanced ∙ right_sum in
        let place = vector (pos (i + j)) (pos j) (pos m) in
        let at_place = under_by a0 a1 b0 b1 k (pos (i + j)) (squared_length (spread a0 a1 b0 b1 place)) first (nearest_of_edges a0 a1 b0 b1 place (positive (i + j) (subst (λ (n : ℕ). 0 < n) left_sum w.some)) (inside_at i j l m e)) in
        let same : difference (weighted_sum left (a0 ∷ a1 ∷ [])) (weighted_sum right (b0 ∷ b1 ∷ [])) ≡ spread a0 a1 b0 b1 place =
        (λ t. difference (weighted_sum (f.2 t) (a0 ∷ a1 ∷ [])) (weighted_sum (g.2 t) (b0 ∷ b1 ∷ []))) ∙ at_weights a0 a1 b0 b1 i j l m e in
        subst (λ (n : ℕ). (k.num *ℤ (pos n *ℤ pos n)) ≤ℤ (k.den *ℤ squared_length (difference (weighted_sum left (a0 ∷ a1 ∷ [])) (weighted_sum right (b0 ∷ b1 ∷ []))))) (sym left_sum)
        (subst (λ (d : V3). (k.num *ℤ (pos (i + j) *ℤ pos (i + j))) ≤ℤ (k.den *ℤ squared_length d)) (sym same) at_place.under)
