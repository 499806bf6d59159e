-- Where the first candidate is valid, it is taken.
use Rattle.std.proofs.Common.{◌≡◌, ℤ, pos, ◌+ℤ◌, ◌-ℤ◌, ◌*ℤ◌, ◌≤ℤ◌, ◌<ℤ◌, List, [], ◌∷◌, refl, sym, ◌∙◌, ap, subst, arith}
use Rattle.std.proofs.lemmas.Int.{ints}
use Rattle.std.specs.Prelude.{Option, Some, None}
use Rattle.std.proofs.lemmas.List.Elements.{All-nil, All-from_recursion, recursion_from_All}
use Rattle.space3.specs.declared.vectors.V3.{V3}
use Rattle.whole_laws.proofs.Ring.{ring, v, num, ◌⊕◌, ◌⊖◌, ◌⊗◌}
use Rattle.whole_laws.proofs.Order.{nonneg_of_mul_ℤ, nonneg_from_le, le_from_nonneg}
use Rattle.nearest.specs.Candidates.{Candidate, IsValid, IsAtMost, IsBelow, IsFirstLeast}
use Rattle.nearest.proofs.LowerBounds.{IsUnder}
use Rattle.nearest.proofs.OfPoints.{each_vt, each_ee}
use Rattle.nearest.proofs.TriangleBounds
use Rattle.nearest.proofs.EdgeBounds
use Rattle.space3.specs.Vectors.{difference, multiple, origin, squared_length, sum_of, vector}
use Rattle.space3.proofs.Combinations.{same_vector}
use Rattle.nearest.specs.Distances.{IsDistance, listed_sum, listed_total}
use Rattle.nearest.specs.PointAndTriangle.{face_candidate, triangle_candidates}
use Rattle.nearest.specs.TwoEdges.{edges_candidates, inner_candidate}

-- the weight, or 0
abbrev weight : Option ℤ → ℤ
weight (Some w) = w
weight None = pos 0

skipped : (x t : ℤ) → t ≡ pos 0 *ℤ x +ℤ t
skipped x t = omega (arith, ints)

nothing_more : (t : ℤ) → t ≡ pos 0 +ℤ t
nothing_more t = omega (arith, ints)

step : (o : Option ℤ) (ws : List (Option ℤ)) (x : V3) (xs : List V3) → listed_sum (o ∷ ws) (x ∷ xs) ≡ sum_of (multiple (weight o) x) (listed_sum ws xs)
step (Some w) ws x xs = refl
step None ws x xs = same_vector _ _ (skipped x.x (listed_sum ws xs).x) (skipped x.y (listed_sum ws xs).y) (skipped x.z (listed_sum ws xs).z)

total_step : (o : Option ℤ) (ws : List (Option ℤ)) → listed_total (o ∷ ws) ≡ weight o +ℤ listed_total ws
total_step (Some w) ws = refl
total_step None ws = nothing_more (listed_total ws)

sum_one : (o : Option ℤ) (x : V3) → listed_sum (o ∷ []) (x ∷ []) ≡ sum_of (multiple (weight o) x) origin
sum_one o x = step o [] x []

sum_two : (o i : Option ℤ) (x y : V3) → listed_sum (o ∷ i ∷ []) (x ∷ y ∷ []) ≡ sum_of (multiple (weight o) x) (sum_of (multiple (weight i) y) origin)
sum_two o i x y = step o (i ∷ []) x (y ∷ []) ∙ ap (sum_of (multiple (weight o) x)) (sum_one i y)

sum_three : (o i j : Option ℤ) (x y z : V3) → listed_sum (o ∷ i ∷ j ∷ []) (x ∷ y ∷ z ∷ []) ≡ sum_of (multiple (weight o) x) (sum_of (multiple (weight i) y) (sum_of (multiple (weight j) z) origin))
sum_three o i j x y z = step o (i ∷ j ∷ []) x (y ∷ z ∷ []) ∙ ap (sum_of (multiple (weight o) x)) (sum_two i j y z)

total_one : (o : Option ℤ) → listed_total (o ∷ []) ≡ weight o +ℤ pos 0
total_one o = total_step o []

total_two : (o i : Option ℤ) → listed_total (o ∷ i ∷ []) ≡ weight o +ℤ (weight i +ℤ pos 0)
total_two o i = total_step o (i ∷ []) ∙ ap (λ z. weight o +ℤ z) (total_one i)

total_three : (o i j : Option ℤ) → listed_total (o ∷ i ∷ j ∷ []) ≡ weight o +ℤ (weight i +ℤ (weight j +ℤ pos 0))
total_three o i j = total_step o (i ∷ j ∷ []) ∙ ap (λ z. weight o +ℤ z) (total_two i j)

-- ---- a candidate's weights as a place of the plane
vt_point : (p a b c : V3) (k l m n d : ℤ) → k +ℤ pos 0 ≡ d → l +ℤ (m +ℤ (n +ℤ pos 0)) ≡ d →
    difference (sum_of (multiple k p) origin) (sum_of (multiple l a) (sum_of (multiple m b) (sum_of (multiple n c) origin))) ≡ TriangleBounds.spread p a b c (vector d m n)
vt_point p a b c k l m n d e f = same_vector _ _ (one p.x a.x b.x c.x) (one p.y a.y b.y c.y) (one p.z a.z b.z c.z)
  where
    first : (k d : ℤ) → k +ℤ pos 0 ≡ d → k ≡ d
    first k d e = omega (arith, ints)

    rest : (l m n d : ℤ) → l +ℤ (m +ℤ (n +ℤ pos 0)) ≡ d → l ≡ d -ℤ m -ℤ n
    rest l m n d f = omega (arith, ints)

    plain : (p a b c : ℤ) → (d *ℤ p +ℤ pos 0) -ℤ ((d -ℤ m -ℤ n) *ℤ a +ℤ (m *ℤ b +ℤ (n *ℤ c +ℤ pos 0))) ≡ d *ℤ (p -ℤ a) +ℤ (m *ℤ (a -ℤ b) +ℤ n *ℤ (a -ℤ c))
    plain p a b c =
        ring (p ∷ a ∷ b ∷ c ∷ d ∷ m ∷ n ∷ [])
        ((v 4 ⊗ v 0 ⊕ num (pos 0)) ⊖ ((v 4 ⊖ v 5 ⊖ v 6) ⊗ v 1 ⊕ (v 5 ⊗ v 2 ⊕ (v 6 ⊗ v 3 ⊕ num (pos 0)))))
        (v 4 ⊗ (v 0 ⊖ v 1) ⊕ (v 5 ⊗ (v 1 ⊖ v 2) ⊕ v 6 ⊗ (v 1 ⊖ v 3))) tt

    one : (p a b c : ℤ) → (k *ℤ p +ℤ pos 0) -ℤ (l *ℤ a +ℤ (m *ℤ b +ℤ (n *ℤ c +ℤ pos 0))) ≡ d *ℤ (p -ℤ a) +ℤ (m *ℤ (a -ℤ b) +ℤ n *ℤ (a -ℤ c))
    one p a b c = (λ i. (first k d e i *ℤ p +ℤ pos 0) -ℤ (rest l m n d f i *ℤ a +ℤ (m *ℤ b +ℤ (n *ℤ c +ℤ pos 0)))) ∙ plain p a b c

ee_point : (a0 a1 b0 b1 : V3) (k l m n d : ℤ) → k +ℤ (l +ℤ pos 0) ≡ d → m +ℤ (n +ℤ pos 0) ≡ d →
    difference (sum_of (multiple k a0) (sum_of (multiple l a1) origin)) (sum_of (multiple m b0) (sum_of (multiple n b1) origin)) ≡ EdgeBounds.spread a0 a1 b0 b1 (vector d l n)
ee_point a0 a1 b0 b1 k l m n d e f = same_vector _ _ (one a0.x a1.x b0.x b1.x) (one a0.y a1.y b0.y b1.y) (one a0.z a1.z b0.z b1.z)
  where
    rest : (k l d : ℤ) → k +ℤ (l +ℤ pos 0) ≡ d → k ≡ d -ℤ l
    rest k l d e = omega (arith, ints)

    plain : (p q r s : ℤ) → ((d -ℤ l) *ℤ p +ℤ (l *ℤ q +ℤ pos 0)) -ℤ ((d -ℤ n) *ℤ r +ℤ (n *ℤ s +ℤ pos 0)) ≡ d *ℤ (p -ℤ r) +ℤ (l *ℤ (q -ℤ p) +ℤ n *ℤ (r -ℤ s))
    plain p q r s =
        ring (p ∷ q ∷ r ∷ s ∷ d ∷ l ∷ n ∷ [])
        (((v 4 ⊖ v 5) ⊗ v 0 ⊕ (v 5 ⊗ v 1 ⊕ num (pos 0))) ⊖ ((v 4 ⊖ v 6) ⊗ v 2 ⊕ (v 6 ⊗ v 3 ⊕ num (pos 0))))
        (v 4 ⊗ (v 0 ⊖ v 2) ⊕ (v 5 ⊗ (v 1 ⊖ v 0) ⊕ v 6 ⊗ (v 2 ⊖ v 3))) tt

    one : (p q r s : ℤ) → (k *ℤ p +ℤ (l *ℤ q +ℤ pos 0)) -ℤ (m *ℤ r +ℤ (n *ℤ s +ℤ pos 0)) ≡ d *ℤ (p -ℤ r) +ℤ (l *ℤ (q -ℤ p) +ℤ n *ℤ (r -ℤ s))
    one p q r s = (λ i. (rest k l d e i *ℤ p +ℤ (l *ℤ q +ℤ pos 0)) -ℤ (rest m n d f i *ℤ r +ℤ (n *ℤ s +ℤ pos 0))) ∙ plain p q r s

-- a bound at a candidate's own weights compares the two
lesser_by_under : (n d n' d' dist : ℤ) → pos 0 <ℤ d' → n' *ℤ d' ≡ dist → IsUnder n d d' dist → (n *ℤ d') ≤ℤ (n' *ℤ d)
lesser_by_under n d n' d' dist h e u =
    let k : (n *ℤ (d' *ℤ d')) ≤ℤ (d *ℤ (n' *ℤ d')) = subst (λ (z : ℤ). (n *ℤ (d' *ℤ d')) ≤ℤ (d *ℤ z)) (sym e) u.under in
    le_from_nonneg (n *ℤ d') (n' *ℤ d) (nonneg_of_mul_ℤ d' (n' *ℤ d -ℤ n *ℤ d') h (subst (λ (z : ℤ). pos 0 ≤ℤ z) split (nonneg_from_le _ _ k)))
  where
    split : d *ℤ (n' *ℤ d') -ℤ n *ℤ (d' *ℤ d') ≡ d' *ℤ (n' *ℤ d -ℤ n *ℤ d')
    split = ring (n ∷ d ∷ n' ∷ d' ∷ []) (v 1 ⊗ (v 2 ⊗ v 3) ⊖ v 0 ⊗ (v 3 ⊗ v 3)) (v 3 ⊗ (v 2 ⊗ v 1 ⊖ v 0 ⊗ v 3)) tt

-- the lists of a candidate are this long
pub record IsVtShaped (k : Candidate) : Type 0 where
  pub point : Option ℤ
  pub of_a : Option ℤ
  pub of_b : Option ℤ
  pub of_c : Option ℤ
  pub left : k.left ≡ point ∷ []
  pub right : k.right ≡ of_a ∷ of_b ∷ of_c ∷ []

face_at_most : (p a b c : V3) (k : Candidate) → IsVtShaped k → IsDistance k (p ∷ []) (a ∷ b ∷ c ∷ []) → IsValid k → IsAtMost (face_candidate p a b c) k
face_at_most p a b c k s d valid =
    let place = vector k.den (weight s.of_b) (weight s.of_c) in
    let points : difference (listed_sum k.left (p ∷ [])) (listed_sum k.right (a ∷ b ∷ c ∷ [])) ≡ TriangleBounds.spread p a b c place =
    (λ i. difference (listed_sum (s.left i) (p ∷ [])) (listed_sum (s.right i) (a ∷ b ∷ c ∷ []))) ∙ (λ i. difference (sum_one s.point p i) (sum_three s.of_a s.of_b s.of_c a b c i))
    ∙ vt_point p a b c (weight s.point) (weight s.of_a) (weight s.of_b) (weight s.of_c) k.den
    (sym (total_one s.point) ∙ ap listed_total (sym s.left) ∙ d.left) (sym (total_three s.of_a s.of_b s.of_c) ∙ ap listed_total (sym s.right) ∙ d.right) in
    lesser_by_under (face_candidate p a b c).num (face_candidate p a b c).den k.num k.den (squared_length (TriangleBounds.spread p a b c place)) valid.divisor
    (d.distance ∙ ap squared_length points) (TriangleBounds.face_under p a b c place)

-- where the foot on the plane is inside, it is taken
pub face_taken : (p a b c : V3) → IsValid (face_candidate p a b c) → IsFirstLeast (triangle_candidates p a b c) (face_candidate p a b c)
face_taken p a b c valid =
    let d = recursion_from_All (λ k. IsDistance k (p ∷ []) (a ∷ b ∷ c ∷ [])) (triangle_candidates p a b c) (each_vt p a b c) in record {
      place = 0;
      there = refl;
      valid = valid;
      least = All-from_recursion (λ k. IsValid k → IsAtMost (face_candidate p a b c) k) (triangle_candidates p a b c) (
        face_at_most p a b c _ shaped d.0,
        (
          face_at_most p a b c _ shaped d.1.0,
          (
            face_at_most p a b c _ shaped d.1.1.0,
            (
              face_at_most p a b c _ shaped d.1.1.1.0,
              (face_at_most p a b c _ shaped d.1.1.1.1.0, (face_at_most p a b c _ shaped d.1.1.1.1.1.0, (face_at_most p a b c _ shaped d.1.1.1.1.1.1.0, tt))),
            ),
          ),
        ),
      );
      first = All-nil (λ k. IsValid k → IsBelow (face_candidate p a b c) k);
    }
  where
    shaped : {o i j l : Option ℤ} {m n : ℤ} → IsVtShaped (record { left = o ∷ []; right = i ∷ j ∷ l ∷ []; num = m; den = n })
    shaped {o} {i} {j} {l} = record { point = o; of_a = i; of_b = j; of_c = l; left = refl; right = refl }

pub record IsEeShaped (k : Candidate) : Type 0 where
  pub of_a0 : Option ℤ
  pub of_a1 : Option ℤ
  pub of_b0 : Option ℤ
  pub of_b1 : Option ℤ
  pub left : k.left ≡ of_a0 ∷ of_a1 ∷ []
  pub right : k.right ≡ of_b0 ∷ of_b1 ∷ []

inner_at_most : (a0 a1 b0 b1 : V3) (k : Candidate) → IsEeShaped k → IsDistance k (a0 ∷ a1 ∷ []) (b0 ∷ b1 ∷ []) → IsValid k → IsAtMost (inner_candidate a0 a1 b0 b1) k
inner_at_most a0 a1 b0 b1 k s d valid =
    let place = vector k.den (weight s.of_a1) (weight s.of_b1) in
    let points : difference (listed_sum k.left (a0 ∷ a1 ∷ [])) (listed_sum k.right (b0 ∷ b1 ∷ [])) ≡ EdgeBounds.spread a0 a1 b0 b1 place =
    (λ i. difference (listed_sum (s.left i) (a0 ∷ a1 ∷ [])) (listed_sum (s.right i) (b0 ∷ b1 ∷ []))) ∙ (λ i. difference (sum_two s.of_a0 s.of_a1 a0 a1 i) (sum_two s.of_b0 s.of_b1 b0 b1 i))
    ∙ ee_point a0 a1 b0 b1 (weight s.of_a0) (weight s.of_a1) (weight s.of_b0) (weight s.of_b1) k.den
    (sym (total_two s.of_a0 s.of_a1) ∙ ap listed_total (sym s.left) ∙ d.left) (sym (total_two s.of_b0 s.of_b1) ∙ ap listed_total (sym s.right) ∙ d.right) in
    lesser_by_under (inner_candidate a0 a1 b0 b1).num (inner_candidate a0 a1 b0 b1).den k.num k.den (squared_length (EdgeBounds.spread a0 a1 b0 b1 place)) valid.divisor
    (d.distance ∙ ap squared_length points) (EdgeBounds.inner_under a0 a1 b0 b1 place)

-- where the feet of the common perpendicular are inside, they are taken
pub inner_taken : (a0 a1 b0 b1 : V3) → IsValid (inner_candidate a0 a1 b0 b1) → IsFirstLeast (edges_candidates a0 a1 b0 b1) (inner_candidate a0 a1 b0 b1)
inner_taken a0 a1 b0 b1 valid =
    let d = recursion_from_All (λ k. IsDistance k (a0 ∷ a1 ∷ []) (b0 ∷ b1 ∷ [])) (edges_candidates a0 a1 b0 b1) (each_ee a0 a1 b0 b1) in record {
      place = 0;
      there = refl;
      valid = valid;
      least = All-from_recursion (λ k. IsValid k → IsAtMost (inner_candidate a0 a1 b0 b1) k) (edges_candidates a0 a1 b0 b1) (
        inner_at_most a0 a1 b0 b1 _ shaped d.0,
        (
          inner_at_most a0 a1 b0 b1 _ shaped d.1.0,
          (
            inner_at_most a0 a1 b0 b1 _ shaped d.1.1.0,
            (
              inner_at_most a0 a1 b0 b1 _ shaped d.1.1.1.0,
              (
                inner_at_most a0 a1 b0 b1 _ shaped d.1.1.1.1.0,
                (
                  inner_at_most a0 a1 b0 b1 _ shaped d.1.1.1.1.1.0,
                  (
                    inner_at_most a0 a1 b0 b1 _ shaped d.1.1.1.1.1.1.0,
                    (inner_at_most a0 a1 b0 b1 _ shaped d.1.1.1.1.1.1.1.0, (inner_at_most a0 a1 b0 b1 _ shaped d.1.1.1.1.1.1.1.1.0, tt)),
                  ),
                ),
              ),
            ),
          ),
        ),
      );
      first = All-nil (λ k. IsValid k → IsBelow (inner_candidate a0 a1 b0 b1) k);
    }
  where
    shaped : {o i j l : Option ℤ} {m n : ℤ} → IsEeShaped (record { left = o ∷ i ∷ []; right = j ∷ l ∷ []; num = m; den = n })
    shaped {o} {i} {j} {l} = record { of_a0 = o; of_a1 = i; of_b0 = j; of_b1 = l; left = refl; right = refl }
