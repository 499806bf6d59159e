-- The value of each candidate is the squared distance of the two points with its weights.
use Rattle.std.proofs.Common.{◌≡◌, ℤ, pos, ◌+ℤ◌, ◌-ℤ◌, ◌*ℤ◌, neg_ℤ, [], ◌∷◌, refl, ◌∙◌, ap, arith}
use Rattle.std.proofs.lemmas.Int.{ints}
use Rattle.std.specs.Prelude.{All}
use Rattle.std.proofs.lemmas.List.Elements.{All-from_recursion}
use Rattle.space3.specs.declared.vectors.V3.{V3}
use Rattle.whole_laws.proofs.Ring.{ring, v, num, neg, ◌⊕◌, ◌⊖◌, ◌⊗◌}
use Rattle.nearest.proofs.TriangleBounds.{face_weights, height}
use Rattle.nearest.proofs.TriangleBounds
use Rattle.nearest.proofs.EdgeBounds
use Rattle.space3.specs.Vectors.{cross_product, difference, dot_product, multiple, origin, squared_length, sum_of, vector}
use Rattle.space3.proofs.Combinations.{mixed, same_vector}
use Rattle.space3.proofs.VectorForms.{at, components, cross, dot, ◌⊕₃◌, ◌⊖₃◌, ◌⊗₃◌}
use Rattle.nearest.specs.Distances.{IsDistance}
use Rattle.nearest.specs.Feet.{foot_on}
use Rattle.nearest.specs.PointAndTriangle.{triangle_candidates}
use Rattle.nearest.specs.TwoEdges.{edges_candidates}

-- ---- totals
one_total : (a : ℤ) → a +ℤ pos 0 ≡ a
one_total a = omega (arith, ints)

foot_total : (a b : ℤ) → (a -ℤ b) +ℤ (b +ℤ pos 0) ≡ a
foot_total a b = omega (arith, ints)

face_total : (a b c : ℤ) → (a -ℤ b -ℤ c) +ℤ (b +ℤ (c +ℤ pos 0)) ≡ a
face_total a b c = omega (arith, ints)

-- ---- distances
abbrev alone : ℤ → V3 → V3
alone w x = sum_of (multiple w x) origin

abbrev two : ℤ → ℤ → V3 → V3 → V3
two i j x y = sum_of (multiple i x) (alone j y)

pub squared-turned : (a b : V3) → squared_length (difference a b) ≡ squared_length (difference b a)
squared-turned a b = ring (components (a ∷ b ∷ [])) (dot (at 0 ⊖₃ at 3) (at 0 ⊖₃ at 3)) (dot (at 3 ⊖₃ at 0) (at 3 ⊖₃ at 0)) tt

squared-multiple : (m : ℤ) (n : V3) → (m *ℤ m) *ℤ squared_length n ≡ squared_length (multiple m n)
squared-multiple m n = ring (m ∷ components (n ∷ [])) ((v 0 ⊗ v 0) ⊗ dot (at 1) (at 1)) (dot (v 0 ⊗₃ at 1) (v 0 ⊗₃ at 1)) tt

corner_distance : (a b : V3) → squared_length (difference a b) *ℤ pos 1 ≡ squared_length (difference (alone (pos 1) a) (alone (pos 1) b))
corner_distance a b = one_factor _ ∙ (λ i. squared_length (difference (same_vector a (alone (pos 1) a) (once a.x) (once a.y) (once a.z) i) (same_vector b (alone (pos 1) b) (once b.x) (once b.y) (once b.z) i)))
  where
    once : (a : ℤ) → a ≡ pos 1 *ℤ a +ℤ pos 0
    once a = omega (arith, ints)

    one_factor : (a : ℤ) → a *ℤ pos 1 ≡ a
    one_factor a = omega (arith, ints)

-- with q = p − s and e = t − s
line_distance : (q e : V3) → squared_length (cross_product q e) *ℤ squared_length e ≡ squared_length (mixed (squared_length e) (neg_ℤ (dot_product q e)) q e)
line_distance q e =
    let n = cross (at 0) (at 3) in
    let d = dot (at 3) (at 3) ⊗₃ at 0 ⊕₃ neg (dot (at 0) (at 3)) ⊗₃ at 3 in
    ring (components (q ∷ e ∷ [])) (dot n n ⊗ dot (at 3) (at 3)) (dot d d) tt

foot_point : (p s t : V3) (d k : ℤ) → mixed d (neg_ℤ k) (difference p s) (difference t s) ≡ difference (alone d p) (two (d -ℤ k) k s t)
foot_point p s t d k = same_vector _ _ (one p.x s.x t.x) (one p.y s.y t.y) (one p.z s.z t.z)
  where
    one : (p s t : ℤ) → d *ℤ (p -ℤ s) +ℤ neg_ℤ k *ℤ (t -ℤ s) ≡ (d *ℤ p +ℤ pos 0) -ℤ ((d -ℤ k) *ℤ s +ℤ (k *ℤ t +ℤ pos 0))
    one p s t = ring (p ∷ s ∷ t ∷ d ∷ k ∷ []) (v 3 ⊗ (v 0 ⊖ v 1) ⊕ neg (v 4) ⊗ (v 2 ⊖ v 1)) ((v 3 ⊗ v 0 ⊕ num (pos 0)) ⊖ ((v 3 ⊖ v 4) ⊗ v 1 ⊕ (v 4 ⊗ v 2 ⊕ num (pos 0)))) tt

pub foot_distance : (p s t : V3) → let f = foot_on p s t in f.num *ℤ f.den ≡ squared_length (difference (alone f.den p) (two f.start f.end s t))
foot_distance p s t =
    let q = difference p s in
    let e = difference t s in line_distance q e ∙ ap squared_length (foot_point p s t (squared_length e) (dot_product q e))

foot_distance_turned : (p s t : V3) → let f = foot_on p s t in f.num *ℤ f.den ≡ squared_length (difference (two f.start f.end s t) (alone f.den p))
foot_distance_turned p s t =
    let f = foot_on p s t in foot_distance p s t ∙ squared-turned (alone f.den p) (two f.start f.end s t)

face_point : (p a b c : V3) (d j k : ℤ) → TriangleBounds.spread p a b c (vector d j k) ≡ difference (alone d p) (sum_of (multiple (d -ℤ j -ℤ k) a) (two j k b c))
face_point p a b c d j k = same_vector _ _ (one p.x a.x b.x c.x) (one p.y a.y b.y c.y) (one p.z a.z b.z c.z)
  where
    one : (p a b c : ℤ) → d *ℤ (p -ℤ a) +ℤ (j *ℤ (a -ℤ b) +ℤ k *ℤ (a -ℤ c)) ≡ (d *ℤ p +ℤ pos 0) -ℤ ((d -ℤ j -ℤ k) *ℤ a +ℤ (j *ℤ b +ℤ (k *ℤ c +ℤ pos 0)))
    one p a b c =
        ring (p ∷ a ∷ b ∷ c ∷ d ∷ j ∷ k ∷ [])
        (v 4 ⊗ (v 0 ⊖ v 1) ⊕ (v 5 ⊗ (v 1 ⊖ v 2) ⊕ v 6 ⊗ (v 1 ⊖ v 3)))
        ((v 4 ⊗ v 0 ⊕ num (pos 0)) ⊖ ((v 4 ⊖ v 5 ⊖ v 6) ⊗ v 1 ⊕ (v 5 ⊗ v 2 ⊕ (v 6 ⊗ v 3 ⊕ num (pos 0))))) tt

inner_point : (a0 a1 b0 b1 : V3) (d j k : ℤ) → EdgeBounds.spread a0 a1 b0 b1 (vector d j k) ≡ difference (two (d -ℤ j) j a0 a1) (two (d -ℤ k) k b0 b1)
inner_point a0 a1 b0 b1 d j k = same_vector _ _ (one a0.x a1.x b0.x b1.x) (one a0.y a1.y b0.y b1.y) (one a0.z a1.z b0.z b1.z)
  where
    one : (p q r s : ℤ) → d *ℤ (p -ℤ r) +ℤ (j *ℤ (q -ℤ p) +ℤ k *ℤ (r -ℤ s)) ≡ ((d -ℤ j) *ℤ p +ℤ (j *ℤ q +ℤ pos 0)) -ℤ ((d -ℤ k) *ℤ r +ℤ (k *ℤ s +ℤ pos 0))
    one p q r s =
        ring (p ∷ q ∷ r ∷ s ∷ d ∷ j ∷ k ∷ [])
        (v 4 ⊗ (v 0 ⊖ v 2) ⊕ (v 5 ⊗ (v 1 ⊖ v 0) ⊕ v 6 ⊗ (v 2 ⊖ v 3)))
        (((v 4 ⊖ v 5) ⊗ v 0 ⊕ (v 5 ⊗ v 1 ⊕ num (pos 0))) ⊖ ((v 4 ⊖ v 6) ⊗ v 2 ⊕ (v 6 ⊗ v 3 ⊕ num (pos 0)))) tt

pub each_vt : (p a b c : V3) → All (λ k. IsDistance k (p ∷ []) (a ∷ b ∷ c ∷ [])) (triangle_candidates p a b c)
each_vt p a b c =
    let ab = foot_on p a b in
    let ac = foot_on p a c in
    let bc = foot_on p b c in
    let w = face_weights p a b c in
    let n = cross_product (difference b a) (difference c a) in
    All-from_recursion (λ k. IsDistance k (p ∷ []) (a ∷ b ∷ c ∷ [])) (triangle_candidates p a b c) (
      record { left = one_total _; right = face_total w.x w.y w.z; distance = squared-multiple (height p a b c) n ∙ ap squared_length (TriangleBounds.foot_is_spread p a b c ∙ face_point p a b c w.x w.y w.z) },
      (
        record { left = one_total _; right = foot_total ab.den ab.end; distance = foot_distance p a b },
        (
          record { left = one_total _; right = foot_total ac.den ac.end; distance = foot_distance p a c },
          (
            record { left = one_total _; right = foot_total bc.den bc.end; distance = foot_distance p b c },
            (
              record { left = refl; right = refl; distance = corner_distance p a },
              (
                record { left = refl; right = refl; distance = corner_distance p b },
                (record { left = refl; right = refl; distance = corner_distance p c }, tt),
              ),
            ),
          ),
        ),
      ),
    )

pub each_ee : (a0 a1 b0 b1 : V3) → All (λ k. IsDistance k (a0 ∷ a1 ∷ []) (b0 ∷ b1 ∷ [])) (edges_candidates a0 a1 b0 b1)
each_ee a0 a1 b0 b1 =
    let from_a0 = foot_on a0 b0 b1 in
    let from_a1 = foot_on a1 b0 b1 in
    let from_b0 = foot_on b0 a0 a1 in
    let from_b1 = foot_on b1 a0 a1 in
    let w = EdgeBounds.inner_weights a0 a1 b0 b1 in
    All-from_recursion (λ k. IsDistance k (a0 ∷ a1 ∷ []) (b0 ∷ b1 ∷ [])) (edges_candidates a0 a1 b0 b1) (
      record { left = foot_total w.x w.y; right = foot_total w.x w.z; distance = EdgeBounds.inner_distance a0 a1 b0 b1 ∙ ap squared_length (inner_point a0 a1 b0 b1 w.x w.y w.z) },
      (
        record { left = one_total _; right = foot_total from_a0.den from_a0.end; distance = foot_distance a0 b0 b1 },
        (
          record { left = one_total _; right = foot_total from_a1.den from_a1.end; distance = foot_distance a1 b0 b1 },
          (
            record { left = foot_total from_b0.den from_b0.end; right = one_total _; distance = foot_distance_turned b0 a0 a1 },
            (
              record { left = foot_total from_b1.den from_b1.end; right = one_total _; distance = foot_distance_turned b1 a0 a1 },
              (
                record { left = refl; right = refl; distance = corner_distance a0 b0 },
                (
                  record { left = refl; right = refl; distance = corner_distance a0 b1 },
                  (
                    record { left = refl; right = refl; distance = corner_distance a1 b0 },
                    (record { left = refl; right = refl; distance = corner_distance a1 b1 }, tt),
                  ),
                ),
              ),
            ),
          ),
        ),
      ),
    )
