-- The candidate that is taken for a point and a triangle is nearest.
use Rattle.std.proofs.Common.{◌≡◌, ℕ, ◌+◌, ◌<◌, ℤ, pos, negsuc, ◌+ℤ◌, ◌-ℤ◌, ◌*ℤ◌, ◌≤ℤ◌, ◌<ℤ◌, List, [], ◌∷◌, sym, ◌∙◌, ap, subst, arith}
use Rattle.std.proofs.lemmas.Int.{ints}
use Rattle.std.specs.List.{sum}
use Rattle.std.proofs.lemmas.List.Elements.{recursion_from_All}
use Rattle.space3.specs.declared.vectors.V3.{V3}
use Rattle.space3.specs.Weights.{weighted_sum}
use Rattle.whole_laws.proofs.Ring.{ring_by, v, num, ◌⊕◌, ◌⊖◌, ◌⊗◌}
use Rattle.nearest.specs.Candidates.{Candidate, IsValid, IsAtMost, IsFirstLeast}
use Rattle.nearest.proofs.LowerBounds.{IsUnder}
use Rattle.nearest.proofs.Border.{Every}
use Rattle.nearest.proofs.TriangleBounds.{TriangleNearest, by_face, by_ab, by_ac, by_bc, triangle, spread, nearest_of_triangle}
use Rattle.nearest.proofs.TakenBounds.{valid_by, taken, by_segment, one_positive, one_of, three_of, sum_one, sum_three}
use Rattle.space3.specs.Vectors.{difference, dot_product, squared_length, vector}
use Rattle.space3.proofs.Combinations.{same_vector}
use Rattle.nearest.specs.Hulls.{AreHullWeights, NoneIsNearer}
use Rattle.nearest.specs.PointAndTriangle.{triangle_candidates}

under_by : (p a b c : V3) (k : Candidate) (S dist : ℤ) → IsFirstLeast (triangle_candidates p a b c) k → TriangleNearest p a b c S dist → IsUnder k.num k.den S dist
under_by p a b c k S dist first (by_face d wa wb wc u) =
    let h = recursion_from_All (λ other. IsValid other → IsAtMost k other) (triangle_candidates p a b c) first.least in
    taken k _ S dist first.valid h.0 (valid_by _ d (d, (wa, (wb, (wc, tt))))) u
under_by p a b c k S dist first (by_ab n) =
    let h = recursion_from_All (λ other. IsValid other → IsAtMost k other) (triangle_candidates p a b c) first.least in
    by_segment p a b S dist
    (λ f g d u. taken k _ S dist first.valid h.1.0 (valid_by _ d (d, (f, (g, (tt, tt))))) u)
    (λ u. taken k _ S dist first.valid h.1.1.1.1.0 (valid_by _ one_positive (one_positive, (one_positive, (tt, (tt, tt))))) u)
    (λ u. taken k _ S dist first.valid h.1.1.1.1.1.0 (valid_by _ one_positive (one_positive, (tt, (one_positive, (tt, tt))))) u) n
under_by p a b c k S dist first (by_ac n) =
    let h = recursion_from_All (λ other. IsValid other → IsAtMost k other) (triangle_candidates p a b c) first.least in
    by_segment p a c S dist
    (λ f g d u. taken k _ S dist first.valid h.1.1.0 (valid_by _ d (d, (f, (tt, (g, tt))))) u)
    (λ u. taken k _ S dist first.valid h.1.1.1.1.0 (valid_by _ one_positive (one_positive, (one_positive, (tt, (tt, tt))))) u)
    (λ u. taken k _ S dist first.valid h.1.1.1.1.1.1.0 (valid_by _ one_positive (one_positive, (tt, (tt, (one_positive, tt))))) u) n
under_by p a b c k S dist first (by_bc n) =
    let h = recursion_from_All (λ other. IsValid other → IsAtMost k other) (triangle_candidates p a b c) first.least in
    by_segment p b c S dist
    (λ f g d u. taken k _ S dist first.valid h.1.1.1.0 (valid_by _ d (d, (tt, (f, (g, tt))))) u)
    (λ u. taken k _ S dist first.valid h.1.1.1.1.1.0 (valid_by _ one_positive (one_positive, (tt, (one_positive, (tt, tt))))) u)
    (λ u. taken k _ S dist first.valid h.1.1.1.1.1.1.0 (valid_by _ one_positive (one_positive, (tt, (tt, (one_positive, tt))))) u) n

-- the difference of the weighted sums, at weights l, and i, j, m
at_weights : (p a b c : V3) (l i j m : ℕ) → l ≡ i + j + m →
    difference (weighted_sum (l ∷ []) (p ∷ [])) (weighted_sum (i ∷ j ∷ m ∷ []) (a ∷ b ∷ c ∷ [])) ≡ spread p a b c (vector (pos l) (pos j) (pos m))
at_weights p a b c l i j m e = same_vector _ _ (one p.x a.x b.x c.x) (one p.y a.y b.y c.y) (one p.z a.z b.z c.z)
  where
    whole : (l i j m : ℕ) → l ≡ i + j + m → pos l ≡ pos i +ℤ pos j +ℤ pos m
    whole l i j m e = omega (arith, ints)

    one : (p a b c : ℤ) → (pos l *ℤ p +ℤ pos 0) -ℤ (pos i *ℤ a +ℤ (pos j *ℤ b +ℤ (pos m *ℤ c +ℤ pos 0))) ≡ pos l *ℤ (p -ℤ a) +ℤ (pos j *ℤ (a -ℤ b) +ℤ pos m *ℤ (a -ℤ c))
    one p a b c =
        ring_by (p ∷ a ∷ b ∷ c ∷ pos l ∷ pos i ∷ pos j ∷ pos m ∷ [])
        ((v 4 ⊗ v 0 ⊕ num (pos 0)) ⊖ (v 5 ⊗ v 1 ⊕ (v 6 ⊗ v 2 ⊕ (v 7 ⊗ v 3 ⊕ num (pos 0)))))
        (v 4 ⊗ (v 0 ⊖ v 1) ⊕ (v 6 ⊗ (v 1 ⊖ v 2) ⊕ v 7 ⊗ (v 1 ⊖ v 3)))
        (v 1) (v 4) (v 5 ⊕ v 6 ⊕ v 7) (whole l i j m e) tt

inside_at : (l i j m : ℕ) → l ≡ i + j + m → Every (λ k. pos 0 ≤ℤ dot_product k (vector (pos l) (pos j) (pos m))) triangle
inside_at l i j m e = (rest l i j m e, (second l j m, (third l j m, tt)))
  where
    rest : (l i j m : ℕ) → l ≡ i + j + m → pos 0 ≤ℤ (pos 1 *ℤ pos l +ℤ negsuc 0 *ℤ pos j +ℤ negsuc 0 *ℤ pos m)
    rest l i j m e = omega (arith, ints)

    second : (l j m : ℕ) → pos 0 ≤ℤ (pos 0 *ℤ pos l +ℤ pos 1 *ℤ pos j +ℤ pos 0 *ℤ pos m)
    second l j m = omega (arith, ints)

    third : (l j m : ℕ) → pos 0 ≤ℤ (pos 0 *ℤ pos l +ℤ pos 0 *ℤ pos j +ℤ pos 1 *ℤ pos m)
    third l j m = omega (arith, ints)

pub nearest_vt : (p a b c : V3) (k : Candidate) → IsFirstLeast (triangle_candidates p a b c) k → NoneIsNearer k.num k.den (p ∷ []) (a ∷ b ∷ c ∷ [])
nearest_vt p a b c k first = record { least = λ left right w. at_lists left right w (one_of left w.each_left) (three_of right w.each_right) }
  where
    positive : (l : ℕ) → 0 < l → pos 0 <ℤ pos l
    positive l h = omega (arith, ints)

    at_lists : (left right : List ℕ) → AreHullWeights left right (p ∷ []) (a ∷ b ∷ c ∷ []) → (l : ℕ) × (left ≡ l ∷ []) → (i : ℕ) × (j : ℕ) × (m : ℕ) × (right ≡ i ∷ j ∷ m ∷ []) →
        (k.num *ℤ (pos (sum left) *ℤ pos (sum left))) ≤ℤ (k.den *ℤ squared_length (difference (weighted_sum left (p ∷ [])) (weighted_sum right (a ∷ b ∷ c ∷ []))))
    at_lists left right w f g =
        let l = f.0 in
        let i = g.0 in
        let j = g.1 in
        let m = g.2 in
        let left_sum : sum left ≡ l = ap sum f.1 ∙ sum_one l in
        let right_sum : sum right ≡ i + j + m = ap sum g.3 ∙ sum_three i j m in
        let e : l ≡ i + j + m = sym left_sum ∙ w.balanced ∙ right_sum in
        let place = vector (pos l) (pos j) (pos m) in
        let at_place = under_by p a b c k (pos l) (squared_length (spread p a b c place)) first (nearest_of_triangle p a b c place (positive l (subst (λ (n : ℕ). 0 < n) left_sum w.some)) (inside_at l i j m e)) in
        let same : difference (weighted_sum left (p ∷ [])) (weighted_sum right (a ∷ b ∷ c ∷ [])) ≡ spread p a b c place =
        (λ t. difference (weighted_sum (f.1 t) (p ∷ [])) (weighted_sum (g.3 t) (a ∷ b ∷ c ∷ []))) ∙ at_weights p a b c l i j m e in
        subst (λ (n : ℕ). (k.num *ℤ (pos n *ℤ pos n)) ≤ℤ (k.den *ℤ squared_length (difference (weighted_sum left (p ∷ [])) (weighted_sum right (a ∷ b ∷ c ∷ []))))) (sym left_sum)
        (subst (λ (d : V3). (k.num *ℤ (pos l *ℤ pos l)) ≤ℤ (k.den *ℤ squared_length d)) (sym same) at_place.under)
