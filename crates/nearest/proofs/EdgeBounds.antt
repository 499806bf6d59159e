-- Two edges: the feet of their common perpendicular where both are inside, else an end against the other edge.
use Rattle.std.proofs.Common.{◌≡◌, ℤ, pos, negsuc, ◌+ℤ◌, ◌-ℤ◌, ◌*ℤ◌, neg_ℤ, ◌≤ℤ◌, ◌<ℤ◌, List, [], ◌∷◌, ◌⊎◌, inl, inr, sym, ◌∙◌, ap, subst, arith}
use Rattle.std.proofs.lemmas.Int.{ints, by_lt_z}
use Rattle.space3.specs.declared.vectors.V3.{V3}
use Rattle.whole_laws.proofs.Ring.{ring, ring_by, v, num, neg, ◌⊕◌, ◌⊖◌, ◌⊗◌}
use Rattle.whole_laws.proofs.Order.{nonneg_of_pos}
use Rattle.nearest.proofs.LowerBounds.{IsUnder, carried}
use Rattle.nearest.proofs.Border.{Every, Somewhere}
use Rattle.nearest.proofs.FootLeads.{Leads, foot_leads, foot_under}
use Rattle.nearest.proofs.Segment.{Nearest}
use Rattle.nearest.proofs.Planes.{flat, Reached, IsOutside, border, AreParallel, parallel, still_leads}
use Rattle.nearest.proofs.TriangleBounds.{negative, turned_difference, nearest_carried, nearest_by, nonneg_by, low_by, second_is, third_is}
use Rattle.space3.specs.Vectors.{cross_product, difference, dot_product, multiple, origin, squared_length, vector}
use Rattle.space3.proofs.Combinations.{mixed, same_vector}
use Rattle.space3.proofs.VectorForms.{at, components, cross, dot, ◌⊕₃◌, ◌⊗₃◌}

-- r = b0 − a0, u = a1 − a0, v = b1 − b0; the height with its sign turned
across : (r e f w : V3) → dot_product (flat (negative r) e (negative f) w) (cross_product e f) ≡ w.x *ℤ (negsuc 0 *ℤ dot_product r (cross_product e f))
across r e f w =
    let n = cross (at 3) (at 6) in
    let m = num (negsuc 0) in
    ring (components (r ∷ e ∷ f ∷ w ∷ [])) (dot (v 9 ⊗₃ (m ⊗₃ at 0) ⊕₃ (v 10 ⊗₃ at 3 ⊕₃ v 11 ⊗₃ (m ⊗₃ at 6))) n) (v 9 ⊗ (m ⊗ dot (at 0) n)) tt

-- the weights of the feet: all, a1, b1
abbrev pub weights : V3 → V3 → V3 → V3
weights r e f =
    let n = cross_product e f in vector (dot_product n n) (dot_product (cross_product r f) n) (dot_product (cross_product r e) n)

straight : (r e f : V3) → flat (negative r) e (negative f) (weights r e f) ≡ multiple (negsuc 0 *ℤ dot_product r (cross_product e f)) (cross_product e f)
straight r e f =
    let n = cross (at 3) (at 6) in
    let m = num (negsuc 0) in
    let b = dot (cross (at 0) (at 6)) n in
    let c = dot (cross (at 0) (at 3)) n in
    let left = dot n n ⊗₃ (m ⊗₃ at 0) ⊕₃ (b ⊗₃ at 3 ⊕₃ c ⊗₃ (m ⊗₃ at 6)) in
    let right = (m ⊗ dot (at 0) n) ⊗₃ n in
    let xs = components (r ∷ e ∷ f ∷ []) in
    same_vector _ _ (ring xs (left.0) (right.0) tt) (ring xs (left.1) (right.1) tt) (ring xs (left.2) (right.2) tt)

-- the difference of the points of both edges, at weights for all, a1 and b1
abbrev pub spread : V3 → V3 → V3 → V3 → V3 → V3
spread a0 a1 b0 b1 w = flat (difference a0 b0) (difference a1 a0) (difference b0 b1) w

spread-turned : (a0 a1 b0 b1 w : V3) → spread a0 a1 b0 b1 w ≡ flat (negative (difference b0 a0)) (difference a1 a0) (negative (difference b1 b0)) w
spread-turned a0 a1 b0 b1 w i = flat (turned_difference a0 b0 i) (difference a1 a0) (turned_difference b0 b1 i) w

-- no weight is negative: of a0, a1, b0, b1
abbrev pub edge_pair : List V3
edge_pair = vector (pos 1) (negsuc 0) (pos 0) ∷ vector (pos 0) (pos 1) (pos 0) ∷ vector (pos 1) (pos 0) (negsuc 0) ∷ vector (pos 0) (pos 0) (pos 1) ∷ []

a0_is : (S y z : ℤ) → pos 1 *ℤ S +ℤ negsuc 0 *ℤ y +ℤ pos 0 *ℤ z ≡ S -ℤ y
a0_is S y z = omega (arith, ints)

b0_is : (S y z : ℤ) → pos 1 *ℤ S +ℤ pos 0 *ℤ y +ℤ negsuc 0 *ℤ z ≡ S -ℤ z
b0_is S y z = omega (arith, ints)

-- the weights of the common perpendicular, for all, a1 and b1
abbrev pub inner_weights : V3 → V3 → V3 → V3 → V3
inner_weights a0 a1 b0 b1 = weights (difference b0 a0) (difference a1 a0) (difference b1 b0)

-- how far the two lines are apart, times the length of the normal
abbrev pub height : V3 → V3 → V3 → V3 → ℤ
height a0 a1 b0 b1 = dot_product (difference b0 a0) (cross_product (difference a1 a0) (difference b1 b0))

-- which candidates are a bound of the distance
pub data EdgesNearest (a0 a1 b0 b1 : V3) (S dist : ℤ) : Type 0 where
  by_insides : pos 0 <ℤ (inner_weights a0 a1 b0 b1).x → pos 0 <ℤ ((inner_weights a0 a1 b0 b1).x -ℤ (inner_weights a0 a1 b0 b1).y) → pos 0 <ℤ (inner_weights a0 a1 b0 b1).y →
      pos 0 <ℤ ((inner_weights a0 a1 b0 b1).x -ℤ (inner_weights a0 a1 b0 b1).z) → pos 0 <ℤ (inner_weights a0 a1 b0 b1).z →
      IsUnder (height a0 a1 b0 b1 *ℤ height a0 a1 b0 b1) (inner_weights a0 a1 b0 b1).x S dist → EdgesNearest a0 a1 b0 b1 S dist
  by_a0 : Nearest a0 b0 b1 S dist → EdgesNearest a0 a1 b0 b1 S dist
  by_a1 : Nearest a1 b0 b1 S dist → EdgesNearest a0 a1 b0 b1 S dist
  by_b0 : Nearest b0 a0 a1 S dist → EdgesNearest a0 a1 b0 b1 S dist
  by_b1 : Nearest b1 a0 a1 S dist → EdgesNearest a0 a1 b0 b1 S dist

side_a0 : (a0 a1 b0 b1 w : V3) → w.y ≡ pos 0 → mixed (w.x -ℤ w.z) w.z (difference a0 b0) (difference a0 b1) ≡ spread a0 a1 b0 b1 w
side_a0 a0 a1 b0 b1 w e = same_vector _ _ (one a0.x a1.x b0.x b1.x) (one a0.y a1.y b0.y b1.y) (one a0.z a1.z b0.z b1.z)
  where
    one : (p q r s : ℤ) → (w.x -ℤ w.z) *ℤ (p -ℤ r) +ℤ w.z *ℤ (p -ℤ s) ≡ w.x *ℤ (p -ℤ r) +ℤ (w.y *ℤ (q -ℤ p) +ℤ w.z *ℤ (r -ℤ s))
    one p q r s =
        ring_by (p ∷ q ∷ r ∷ s ∷ components (w ∷ []))
        ((v 4 ⊖ v 6) ⊗ (v 0 ⊖ v 2) ⊕ v 6 ⊗ (v 0 ⊖ v 3)) (v 4 ⊗ (v 0 ⊖ v 2) ⊕ (v 5 ⊗ (v 1 ⊖ v 0) ⊕ v 6 ⊗ (v 2 ⊖ v 3)))
        (v 0 ⊖ v 1) (v 5) (num (pos 0)) e tt

side_a1 : (a0 a1 b0 b1 w : V3) → w.x -ℤ w.y ≡ pos 0 → mixed (w.x -ℤ w.z) w.z (difference a1 b0) (difference a1 b1) ≡ spread a0 a1 b0 b1 w
side_a1 a0 a1 b0 b1 w e = same_vector _ _ (one a0.x a1.x b0.x b1.x) (one a0.y a1.y b0.y b1.y) (one a0.z a1.z b0.z b1.z)
  where
    one : (p q r s : ℤ) → (w.x -ℤ w.z) *ℤ (q -ℤ r) +ℤ w.z *ℤ (q -ℤ s) ≡ w.x *ℤ (p -ℤ r) +ℤ (w.y *ℤ (q -ℤ p) +ℤ w.z *ℤ (r -ℤ s))
    one p q r s =
        ring_by (p ∷ q ∷ r ∷ s ∷ components (w ∷ []))
        ((v 4 ⊖ v 6) ⊗ (v 1 ⊖ v 2) ⊕ v 6 ⊗ (v 1 ⊖ v 3)) (v 4 ⊗ (v 0 ⊖ v 2) ⊕ (v 5 ⊗ (v 1 ⊖ v 0) ⊕ v 6 ⊗ (v 2 ⊖ v 3)))
        (v 1 ⊖ v 0) (v 4 ⊖ v 5) (num (pos 0)) e tt

side_b0 : (a0 a1 b0 b1 w : V3) → w.z ≡ pos 0 → mixed (w.x -ℤ w.y) w.y (difference b0 a0) (difference b0 a1) ≡ negative (spread a0 a1 b0 b1 w)
side_b0 a0 a1 b0 b1 w e = same_vector _ _ (one a0.x a1.x b0.x b1.x) (one a0.y a1.y b0.y b1.y) (one a0.z a1.z b0.z b1.z)
  where
    one : (p q r s : ℤ) → (w.x -ℤ w.y) *ℤ (r -ℤ p) +ℤ w.y *ℤ (r -ℤ q) ≡ negsuc 0 *ℤ (w.x *ℤ (p -ℤ r) +ℤ (w.y *ℤ (q -ℤ p) +ℤ w.z *ℤ (r -ℤ s)))
    one p q r s =
        ring_by (p ∷ q ∷ r ∷ s ∷ components (w ∷ []))
        ((v 4 ⊖ v 5) ⊗ (v 2 ⊖ v 0) ⊕ v 5 ⊗ (v 2 ⊖ v 1)) (num (negsuc 0) ⊗ (v 4 ⊗ (v 0 ⊖ v 2) ⊕ (v 5 ⊗ (v 1 ⊖ v 0) ⊕ v 6 ⊗ (v 2 ⊖ v 3))))
        (v 2 ⊖ v 3) (v 6) (num (pos 0)) e tt

side_b1 : (a0 a1 b0 b1 w : V3) → w.x -ℤ w.z ≡ pos 0 → mixed (w.x -ℤ w.y) w.y (difference b1 a0) (difference b1 a1) ≡ negative (spread a0 a1 b0 b1 w)
side_b1 a0 a1 b0 b1 w e = same_vector _ _ (one a0.x a1.x b0.x b1.x) (one a0.y a1.y b0.y b1.y) (one a0.z a1.z b0.z b1.z)
  where
    one : (p q r s : ℤ) → (w.x -ℤ w.y) *ℤ (s -ℤ p) +ℤ w.y *ℤ (s -ℤ q) ≡ negsuc 0 *ℤ (w.x *ℤ (p -ℤ r) +ℤ (w.y *ℤ (q -ℤ p) +ℤ w.z *ℤ (r -ℤ s)))
    one p q r s =
        ring_by (p ∷ q ∷ r ∷ s ∷ components (w ∷ []))
        ((v 4 ⊖ v 5) ⊗ (v 3 ⊖ v 0) ⊕ v 5 ⊗ (v 3 ⊖ v 1)) (num (negsuc 0) ⊗ (v 4 ⊗ (v 0 ⊖ v 2) ⊕ (v 5 ⊗ (v 1 ⊖ v 0) ⊕ v 6 ⊗ (v 2 ⊖ v 3))))
        (v 3 ⊖ v 2) (v 4 ⊖ v 6) (num (pos 0)) e tt

squared-negative : (a : V3) → squared_length (negative a) ≡ squared_length a
squared-negative a =
    let m = num (negsuc 0) in
    ring (components (a ∷ [])) (dot (m ⊗₃ at 0) (m ⊗₃ at 0)) (dot (at 0) (at 0)) tt

back_together : (S y : ℤ) → (S -ℤ y) +ℤ y ≡ S
back_together S y = omega (arith, ints)

-- on the border an end of one edge against the other is nearest
nearest_on_border : (a0 a1 b0 b1 w : V3) → Every (λ k. pos 0 ≤ℤ dot_product k w) edge_pair → Somewhere (λ k. dot_product k w ≡ pos 0) edge_pair → EdgesNearest a0 a1 b0 b1 w.x (squared_length (spread a0 a1 b0 b1 w))
nearest_on_border a0 a1 b0 b1 w inside (inl e) =
    by_a1 (nearest_by a1 b0 b1 (w.x -ℤ w.z) w.z w.x (spread a0 a1 b0 b1 w) (nonneg_by _ _ (b0_is w.x w.y w.z) inside.1.1.0) (nonneg_by _ _ (third_is w.x w.y w.z) inside.1.1.1.0) (back_together w.x w.z)
    (side_a1 a0 a1 b0 b1 w (sym (a0_is w.x w.y w.z) ∙ e)))
nearest_on_border a0 a1 b0 b1 w inside (inr (inl e)) =
    by_a0 (nearest_by a0 b0 b1 (w.x -ℤ w.z) w.z w.x (spread a0 a1 b0 b1 w) (nonneg_by _ _ (b0_is w.x w.y w.z) inside.1.1.0) (nonneg_by _ _ (third_is w.x w.y w.z) inside.1.1.1.0) (back_together w.x w.z)
    (side_a0 a0 a1 b0 b1 w (sym (second_is w.x w.y w.z) ∙ e)))
nearest_on_border a0 a1 b0 b1 w inside (inr (inr (inl e))) =
    by_b1 (subst (λ (z : ℤ). Nearest b1 a0 a1 w.x z) (squared-negative (spread a0 a1 b0 b1 w))
    (nearest_by b1 a0 a1 (w.x -ℤ w.y) w.y w.x (negative (spread a0 a1 b0 b1 w)) (nonneg_by _ _ (a0_is w.x w.y w.z) inside.0) (nonneg_by _ _ (second_is w.x w.y w.z) inside.1.0) (back_together w.x w.y)
    (side_b1 a0 a1 b0 b1 w (sym (b0_is w.x w.y w.z) ∙ e))))
nearest_on_border a0 a1 b0 b1 w inside (inr (inr (inr (inl e)))) =
    by_b0 (subst (λ (z : ℤ). Nearest b0 a0 a1 w.x z) (squared-negative (spread a0 a1 b0 b1 w))
    (nearest_by b0 a0 a1 (w.x -ℤ w.y) w.y w.x (negative (spread a0 a1 b0 b1 w)) (nonneg_by _ _ (a0_is w.x w.y w.z) inside.0) (nonneg_by _ _ (second_is w.x w.y w.z) inside.1.0) (back_together w.x w.y)
    (side_b0 a0 a1 b0 b1 w (sym (third_is w.x w.y w.z) ∙ e))))
nearest_on_border a0 a1 b0 b1 w inside (inr (inr (inr (inr e)))) = absurd e

edges_carried : (a0 a1 b0 b1 : V3) (S dist S' dist' : ℤ) → pos 0 <ℤ S' → (dist' *ℤ (S *ℤ S)) ≤ℤ (dist *ℤ (S' *ℤ S')) → EdgesNearest a0 a1 b0 b1 S' dist' → EdgesNearest a0 a1 b0 b1 S dist
edges_carried a0 a1 b0 b1 S dist S' dist' h k (by_insides d f g i j u) =
    by_insides d f g i j (carried (height a0 a1 b0 b1 *ℤ height a0 a1 b0 b1) (inner_weights a0 a1 b0 b1).x S dist S' dist' (nonneg_of_pos (inner_weights a0 a1 b0 b1).x d) h k u)
edges_carried a0 a1 b0 b1 S dist S' dist' h k (by_a0 u) = by_a0 (nearest_carried a0 b0 b1 S dist S' dist' h k u)
edges_carried a0 a1 b0 b1 S dist S' dist' h k (by_a1 u) = by_a1 (nearest_carried a1 b0 b1 S dist S' dist' h k u)
edges_carried a0 a1 b0 b1 S dist S' dist' h k (by_b0 u) = by_b0 (nearest_carried b0 a0 a1 S dist S' dist' h k u)
edges_carried a0 a1 b0 b1 S dist S' dist' h k (by_b1 u) = by_b1 (nearest_carried b1 a0 a1 S dist S' dist' h k u)

nearest_reached : (a0 a1 b0 b1 w : V3) → Reached edge_pair (difference a0 b0) (difference a1 a0) (difference b0 b1) w → EdgesNearest a0 a1 b0 b1 w.x (squared_length (spread a0 a1 b0 b1 w))
nearest_reached a0 a1 b0 b1 w r =
    edges_carried a0 a1 b0 b1 w.x (squared_length (spread a0 a1 b0 b1 w)) r.to.x (squared_length (spread a0 a1 b0 b1 r.to)) r.some r.nearer (nearest_on_border a0 a1 b0 b1 r.to r.kept r.zero)

inner_across : (a0 a1 b0 b1 w : V3) → dot_product (spread a0 a1 b0 b1 w) (cross_product (difference a1 a0) (difference b1 b0)) ≡ w.x *ℤ (negsuc 0 *ℤ height a0 a1 b0 b1)
inner_across a0 a1 b0 b1 w =
    let r = difference b0 a0 in
    let e = difference a1 a0 in
    let f = difference b1 b0 in ap (λ (d : V3). dot_product d (cross_product e f)) (spread-turned a0 a1 b0 b1 w) ∙ across r e f w

-- the difference at the weights of the feet
feet_are_spread : (a0 a1 b0 b1 : V3) → multiple (negsuc 0 *ℤ height a0 a1 b0 b1) (cross_product (difference a1 a0) (difference b1 b0)) ≡ spread a0 a1 b0 b1 (inner_weights a0 a1 b0 b1)
feet_are_spread a0 a1 b0 b1 =
    let r = difference b0 a0 in
    let e = difference a1 a0 in
    let f = difference b1 b0 in sym (straight r e f) ∙ sym (spread-turned a0 a1 b0 b1 (weights r e f))

pub inner_distance : (a0 a1 b0 b1 : V3) → let n = cross_product (difference a1 a0) (difference b1 b0) in
    (height a0 a1 b0 b1 *ℤ height a0 a1 b0 b1) *ℤ squared_length n ≡ squared_length (spread a0 a1 b0 b1 (inner_weights a0 a1 b0 b1))
inner_distance a0 a1 b0 b1 = turned (height a0 a1 b0 b1) (cross_product (difference a1 a0) (difference b1 b0)) ∙ ap squared_length (feet_are_spread a0 a1 b0 b1)
  where
    turned : (m : ℤ) (n : V3) → (m *ℤ m) *ℤ squared_length n ≡ squared_length (multiple (negsuc 0 *ℤ m) n)
    turned m n =
        let d = (num (negsuc 0) ⊗ v 0) ⊗₃ at 1 in
        ring (m ∷ components (n ∷ [])) ((v 0 ⊗ v 0) ⊗ dot (at 1) (at 1)) (dot d d) tt

inner_leads : (a0 a1 b0 b1 w : V3) → pos 0 ≤ℤ w.x → Leads w.x (inner_weights a0 a1 b0 b1).x (spread a0 a1 b0 b1 w) (spread a0 a1 b0 b1 (inner_weights a0 a1 b0 b1))
inner_leads a0 a1 b0 b1 w hw =
    let r = difference b0 a0 in
    let e = difference a1 a0 in
    let f = difference b1 b0 in
    let n = cross_product e f in
    let m = negsuc 0 *ℤ height a0 a1 b0 b1 in
    subst (λ (h : V3). Leads w.x (squared_length n) (spread a0 a1 b0 b1 w) h) (feet_are_spread a0 a1 b0 b1) (foot_leads w.x m (spread a0 a1 b0 b1 w) n hw (inner_across a0 a1 b0 b1 w))

-- their distance is a bound at all weights, also negative ones
pub inner_under : (a0 a1 b0 b1 w : V3) → IsUnder (height a0 a1 b0 b1 *ℤ height a0 a1 b0 b1) (inner_weights a0 a1 b0 b1).x w.x (squared_length (spread a0 a1 b0 b1 w))
inner_under a0 a1 b0 b1 w =
    let m = height a0 a1 b0 b1 in
    let n = cross_product (difference a1 a0) (difference b1 b0) in
    subst (λ (z : ℤ). IsUnder z (squared_length n) w.x (squared_length (spread a0 a1 b0 b1 w))) (turned m) (foot_under w.x (negsuc 0 *ℤ m) (spread a0 a1 b0 b1 w) n (inner_across a0 a1 b0 b1 w))
  where
    turned : (m : ℤ) → (negsuc 0 *ℤ m) *ℤ (negsuc 0 *ℤ m) ≡ m *ℤ m
    turned m = ring (m ∷ []) ((num (negsuc 0) ⊗ v 0) ⊗ (num (negsuc 0) ⊗ v 0)) (v 0 ⊗ v 0) tt

-- parallel edges: a direction along which nothing changes
parallel_direction : (p q r s y z : ℤ) → y *ℤ (q -ℤ p) +ℤ z *ℤ (s -ℤ r) ≡ pos 0 → pos 0 *ℤ (p -ℤ r) +ℤ (y *ℤ (q -ℤ p) +ℤ neg_ℤ z *ℤ (r -ℤ s)) ≡ pos 0
parallel_direction p q r s y z e =
    ring_by (p ∷ q ∷ r ∷ s ∷ y ∷ z ∷ [])
    (num (pos 0) ⊗ (v 0 ⊖ v 2) ⊕ (v 4 ⊗ (v 1 ⊖ v 0) ⊕ neg (v 5) ⊗ (v 2 ⊖ v 3))) (num (pos 0))
    (num (pos 1)) (v 4 ⊗ (v 1 ⊖ v 0) ⊕ v 5 ⊗ (v 3 ⊖ v 2)) (num (pos 0)) e tt

parallel_outside : (y z : ℤ) → (pos 0 <ℤ y) ⊎ (pos 0 <ℤ z) → IsOutside edge_pair (vector (pos 0) y (neg_ℤ z))
parallel_outside y z (inl k) = inl (inl (low y (neg_ℤ z) k))
  where
    low : (y z : ℤ) → pos 0 <ℤ y → (pos 1 *ℤ pos 0 +ℤ negsuc 0 *ℤ y +ℤ pos 0 *ℤ z) <ℤ pos 0
    low y z h = omega (arith, ints)
parallel_outside y z (inr k) = inl (inr (inr (inr (inl (low y z k)))))
  where
    low : (y z : ℤ) → pos 0 <ℤ z → (pos 0 *ℤ pos 0 +ℤ pos 0 *ℤ y +ℤ pos 1 *ℤ neg_ℤ z) <ℤ pos 0
    low y z h = omega (arith, ints)

zero_nonneg : pos 0 ≤ℤ pos 0
zero_nonneg = omega (arith, ints)

parallel_edges : (a0 a1 b0 b1 w : V3) → pos 0 <ℤ w.x → Every (λ k. pos 0 ≤ℤ dot_product k w) edge_pair → AreParallel (difference a1 a0) (difference b1 b0) →
    Reached edge_pair (difference a0 b0) (difference a1 a0) (difference b0 b1) w
parallel_edges a0 a1 b0 b1 w hw inside d =
    let h = vector (pos 0) d.y (neg_ℤ d.z) in
    let still : spread a0 a1 b0 b1 h ≡ origin =
    same_vector _ _ (parallel_direction a0.x a1.x b0.x b1.x d.y d.z (ap (λ (t : V3). t.x) d.balanced)) (parallel_direction a0.y a1.y b0.y b1.y d.y d.z (ap (λ (t : V3). t.y) d.balanced)) (parallel_direction a0.z a1.z b0.z b1.z d.y d.z (ap (λ (t : V3). t.z) d.balanced)) in
    border edge_pair (difference a0 b0) (difference a1 a0) (difference b0 b1) w h inside hw zero_nonneg
    (subst (λ (g : V3). Leads w.x (pos 0) (spread a0 a1 b0 b1 w) g) (sym still) (still_leads w.x (spread a0 a1 b0 b1 w) (nonneg_of_pos w.x hw)))
    (parallel_outside d.y d.z d.some)

-- one of the nine candidates is a bound at all weights
pub nearest_of_edges : (a0 a1 b0 b1 w : V3) → pos 0 <ℤ w.x → Every (λ k. pos 0 ≤ℤ dot_product k w) edge_pair → EdgesNearest a0 a1 b0 b1 w.x (squared_length (spread a0 a1 b0 b1 w))
nearest_of_edges a0 a1 b0 b1 w hw inside =
    let h = inner_weights a0 a1 b0 b1 in
    let outward : (pos 0 <ℤ h.x) → Somewhere (λ k. dot_product k h ≤ℤ pos 0) edge_pair → EdgesNearest a0 a1 b0 b1 w.x (squared_length (spread a0 a1 b0 b1 w)) =
    λ d o. nearest_reached a0 a1 b0 b1 w (border edge_pair (difference a0 b0) (difference a1 a0) (difference b0 b1) w h inside hw (nonneg_of_pos h.x d) (inner_leads a0 a1 b0 b1 w (nonneg_of_pos w.x hw)) (inr (d, o))) in
    by_lt_z (pos 0) h.x
    (λ d. by_lt_z (pos 0) h.y
    (λ ha1. by_lt_z (pos 0) h.z
    (λ hb1. by_lt_z (pos 0) (h.x -ℤ h.y)
    (λ ha0. by_lt_z (pos 0) (h.x -ℤ h.z)
    (λ hb0. by_insides d ha0 ha1 hb0 hb1 (inner_under a0 a1 b0 b1 w))
    (λ low. outward d (inr (inr (inl (low_by _ _ (b0_is h.x h.y h.z) low))))))
    (λ low. outward d (inl (low_by _ _ (a0_is h.x h.y h.z) low))))
    (λ low. outward d (inr (inr (inr (inl (low_by _ _ (third_is h.x h.y h.z) low)))))))
    (λ low. outward d (inr (inl (low_by _ _ (second_is h.x h.y h.z) low)))))
    (λ low. nearest_reached a0 a1 b0 b1 w (parallel_edges a0 a1 b0 b1 w hw inside (parallel (difference a1 a0) (difference b1 b0) low)))
