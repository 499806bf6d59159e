-- A point against a triangle: the foot on its plane where it is inside, else an edge.
use Rattle.std.proofs.Common.{◌≡◌, ℤ, pos, negsuc, ◌+ℤ◌, ◌-ℤ◌, ◌*ℤ◌, ◌≤ℤ◌, ◌<ℤ◌, List, [], ◌∷◌, ◌⊎◌, inl, inr, sym, ◌∙◌, ap, subst, arith}
use Rattle.std.proofs.lemmas.Int.{ints, by_lt_z}
use Rattle.space3.specs.declared.vectors.V3.{V3}
use Rattle.whole_laws.proofs.Ring.{ring, ring_by, v, num, ◌⊕◌, ◌⊖◌, ◌⊗◌}
use Rattle.whole_laws.proofs.Order.{nonneg_of_pos}
use Rattle.nearest.proofs.LowerBounds.{IsUnder, carried}
use Rattle.nearest.proofs.Border.{Every, Somewhere}
use Rattle.nearest.proofs.FootLeads.{Leads, foot_leads, foot_under}
use Rattle.nearest.proofs.Segment.{Nearest, by_foot, by_start, by_end, nearest_of_segment}
use Rattle.nearest.proofs.Planes.{flat, Reached, IsOutside, border, AreParallel, parallel, still_leads}
use Rattle.space3.specs.Vectors.{cross_product, difference, dot_product, multiple, origin, squared_length, vector}
use Rattle.space3.proofs.Combinations.{mixed, same_vector, squared-nonneg}
use Rattle.space3.proofs.VectorForms.{at, components, cross, dot, ◌⊕₃◌, ◌⊗₃◌}
use Rattle.nearest.specs.Feet.{foot_on}

one_nonneg : pos 0 ≤ℤ pos 1
one_nonneg = omega (arith, ints)

-- what is nearest of a segment at weights that are as near is so at the first ones
pub nearest_carried : (p s t : V3) (S dist S' dist' : ℤ) → pos 0 <ℤ S' → (dist' *ℤ (S *ℤ S)) ≤ℤ (dist *ℤ (S' *ℤ S')) → Nearest p s t S' dist' → Nearest p s t S dist
nearest_carried p s t S dist S' dist' h k (by_foot f g u) = by_foot f g (carried (foot_on p s t).num (foot_on p s t).den S dist S' dist' (squared-nonneg (difference t s)) h k u)
nearest_carried p s t S dist S' dist' h k (by_start u) = by_start (carried (squared_length (difference p s)) (pos 1) S dist S' dist' one_nonneg h k u)
nearest_carried p s t S dist S' dist' h k (by_end u) = by_end (carried (squared_length (difference p t)) (pos 1) S dist S' dist' one_nonneg h k u)

abbrev pub negative : V3 → V3
negative a = multiple (negsuc 0) a

pub turned_difference : (a b : V3) → difference a b ≡ negative (difference b a)
turned_difference a b = same_vector _ _ (one a.x b.x) (one a.y b.y) (one a.z b.z)
  where
    one : (a b : ℤ) → a -ℤ b ≡ negsuc 0 *ℤ (b -ℤ a)
    one a b = omega (arith, ints)

-- r = p − a, e = b − a, f = c − a
across : (r e f w : V3) → dot_product (flat r (negative e) (negative f) w) (cross_product e f) ≡ w.x *ℤ dot_product r (cross_product e f)
across r e f w =
    let n = cross (at 3) (at 6) in
    let m = num (negsuc 0) in
    ring (components (r ∷ e ∷ f ∷ w ∷ [])) (dot (v 9 ⊗₃ at 0 ⊕₃ (v 10 ⊗₃ (m ⊗₃ at 3) ⊕₃ v 11 ⊗₃ (m ⊗₃ at 6))) n) (v 9 ⊗ dot (at 0) n) tt

-- the weights of the foot on the plane: all, b, c
abbrev pub weights : V3 → V3 → V3 → V3
weights r e f =
    let n = cross_product e f in vector (dot_product n n) (dot_product (cross_product r f) n) (dot_product (cross_product e r) n)

straight : (r e f : V3) → flat r (negative e) (negative f) (weights r e f) ≡ multiple (dot_product r (cross_product e f)) (cross_product e f)
straight r e f =
    let n = cross (at 3) (at 6) in
    let m = num (negsuc 0) in
    let b = dot (cross (at 0) (at 6)) n in
    let c = dot (cross (at 3) (at 0)) n in
    let left = dot n n ⊗₃ at 0 ⊕₃ (b ⊗₃ (m ⊗₃ at 3) ⊕₃ c ⊗₃ (m ⊗₃ at 6)) in
    let right = dot (at 0) n ⊗₃ n in
    let xs = components (r ∷ e ∷ f ∷ []) in
    same_vector _ _ (ring xs (left.0) (right.0) tt) (ring xs (left.1) (right.1) tt) (ring xs (left.2) (right.2) tt)

-- the difference of p and the point of the triangle, at weights for all, b and c
abbrev pub spread : V3 → V3 → V3 → V3 → V3 → V3
spread p a b c w = flat (difference p a) (difference a b) (difference a c) w

spread-turned : (p a b c w : V3) → spread p a b c w ≡ flat (difference p a) (negative (difference b a)) (negative (difference c a)) w
spread-turned p a b c w i = flat (difference p a) (turned_difference a b i) (turned_difference a c i) w

-- no weight is negative
abbrev pub triangle : List V3
triangle = vector (pos 1) (negsuc 0) (negsuc 0) ∷ vector (pos 0) (pos 1) (pos 0) ∷ vector (pos 0) (pos 0) (pos 1) ∷ []

rest_is : (S y z : ℤ) → pos 1 *ℤ S +ℤ negsuc 0 *ℤ y +ℤ negsuc 0 *ℤ z ≡ S -ℤ y -ℤ z
rest_is S y z = omega (arith, ints)

pub second_is : (S y z : ℤ) → pos 0 *ℤ S +ℤ pos 1 *ℤ y +ℤ pos 0 *ℤ z ≡ y
second_is S y z = omega (arith, ints)

pub third_is : (S y z : ℤ) → pos 0 *ℤ S +ℤ pos 0 *ℤ y +ℤ pos 1 *ℤ z ≡ z
third_is S y z = omega (arith, ints)

-- the weights of the point's foot, for all, b and c
abbrev pub face_weights : V3 → V3 → V3 → V3 → V3
face_weights p a b c = weights (difference p a) (difference b a) (difference c a)

-- the point's height over the plane, times the length of the normal
abbrev pub height : V3 → V3 → V3 → V3 → ℤ
height p a b c = dot_product (difference p a) (cross_product (difference b a) (difference c a))

-- which candidates are a bound of the distance
pub data TriangleNearest (p a b c : V3) (S dist : ℤ) : Type 0 where
  by_face : pos 0 <ℤ (face_weights p a b c).x → pos 0 <ℤ ((face_weights p a b c).x -ℤ (face_weights p a b c).y -ℤ (face_weights p a b c).z) →
      pos 0 <ℤ (face_weights p a b c).y → pos 0 <ℤ (face_weights p a b c).z →
      IsUnder (height p a b c *ℤ height p a b c) (face_weights p a b c).x S dist → TriangleNearest p a b c S dist
  by_ab : Nearest p a b S dist → TriangleNearest p a b c S dist
  by_ac : Nearest p a c S dist → TriangleNearest p a b c S dist
  by_bc : Nearest p b c S dist → TriangleNearest p a b c S dist

-- weights with a 0 are weights of an edge
pub nearest_by : (p s t : V3) (y z S : ℤ) (d : V3) → pos 0 ≤ℤ y → pos 0 ≤ℤ z → y +ℤ z ≡ S → mixed y z (difference p s) (difference p t) ≡ d → Nearest p s t S (squared_length d)
nearest_by p s t y z S d hy hz e f = subst (λ (g : V3). Nearest p s t S (squared_length g)) f (subst (λ (T : ℤ). Nearest p s t T (squared_length (mixed y z (difference p s) (difference p t)))) e (nearest_of_segment p s t y z hy hz))

side_ac : (p a b c w : V3) → w.y ≡ pos 0 → mixed (w.x -ℤ w.z) w.z (difference p a) (difference p c) ≡ spread p a b c w
side_ac p a b c w e = same_vector _ _ (one p.x a.x b.x c.x) (one p.y a.y b.y c.y) (one p.z a.z b.z c.z)
  where
    one : (p a b c : ℤ) → (w.x -ℤ w.z) *ℤ (p -ℤ a) +ℤ w.z *ℤ (p -ℤ c) ≡ w.x *ℤ (p -ℤ a) +ℤ (w.y *ℤ (a -ℤ b) +ℤ w.z *ℤ (a -ℤ c))
    one p a b c =
        ring_by (p ∷ a ∷ b ∷ c ∷ components (w ∷ []))
        ((v 4 ⊖ v 6) ⊗ (v 0 ⊖ v 1) ⊕ v 6 ⊗ (v 0 ⊖ v 3)) (v 4 ⊗ (v 0 ⊖ v 1) ⊕ (v 5 ⊗ (v 1 ⊖ v 2) ⊕ v 6 ⊗ (v 1 ⊖ v 3)))
        (v 2 ⊖ v 1) (v 5) (num (pos 0)) e tt

side_ab : (p a b c w : V3) → w.z ≡ pos 0 → mixed (w.x -ℤ w.y) w.y (difference p a) (difference p b) ≡ spread p a b c w
side_ab p a b c w e = same_vector _ _ (one p.x a.x b.x c.x) (one p.y a.y b.y c.y) (one p.z a.z b.z c.z)
  where
    one : (p a b c : ℤ) → (w.x -ℤ w.y) *ℤ (p -ℤ a) +ℤ w.y *ℤ (p -ℤ b) ≡ w.x *ℤ (p -ℤ a) +ℤ (w.y *ℤ (a -ℤ b) +ℤ w.z *ℤ (a -ℤ c))
    one p a b c =
        ring_by (p ∷ a ∷ b ∷ c ∷ components (w ∷ []))
        ((v 4 ⊖ v 5) ⊗ (v 0 ⊖ v 1) ⊕ v 5 ⊗ (v 0 ⊖ v 2)) (v 4 ⊗ (v 0 ⊖ v 1) ⊕ (v 5 ⊗ (v 1 ⊖ v 2) ⊕ v 6 ⊗ (v 1 ⊖ v 3)))
        (v 3 ⊖ v 1) (v 6) (num (pos 0)) e tt

side_bc : (p a b c w : V3) → w.x -ℤ w.y -ℤ w.z ≡ pos 0 → mixed w.y w.z (difference p b) (difference p c) ≡ spread p a b c w
side_bc p a b c w e = same_vector _ _ (one p.x a.x b.x c.x) (one p.y a.y b.y c.y) (one p.z a.z b.z c.z)
  where
    one : (p a b c : ℤ) → w.y *ℤ (p -ℤ b) +ℤ w.z *ℤ (p -ℤ c) ≡ w.x *ℤ (p -ℤ a) +ℤ (w.y *ℤ (a -ℤ b) +ℤ w.z *ℤ (a -ℤ c))
    one p a b c =
        ring_by (p ∷ a ∷ b ∷ c ∷ components (w ∷ []))
        (v 5 ⊗ (v 0 ⊖ v 2) ⊕ v 6 ⊗ (v 0 ⊖ v 3)) (v 4 ⊗ (v 0 ⊖ v 1) ⊕ (v 5 ⊗ (v 1 ⊖ v 2) ⊕ v 6 ⊗ (v 1 ⊖ v 3)))
        (v 1 ⊖ v 0) (v 4 ⊖ v 5 ⊖ v 6) (num (pos 0)) e tt

back_together : (S y : ℤ) → (S -ℤ y) +ℤ y ≡ S
back_together S y = omega (arith, ints)

all_shared : (S y z : ℤ) → S -ℤ y -ℤ z ≡ pos 0 → y +ℤ z ≡ S
all_shared S y z e = omega (arith, ints)

rest_nonneg : (S y z : ℤ) → pos 0 ≤ℤ (pos 1 *ℤ S +ℤ negsuc 0 *ℤ y +ℤ negsuc 0 *ℤ z) → y ≡ pos 0 → pos 0 ≤ℤ (S -ℤ z)
rest_nonneg S y z h e = omega (arith, ints)

other_rest_nonneg : (S y z : ℤ) → pos 0 ≤ℤ (pos 1 *ℤ S +ℤ negsuc 0 *ℤ y +ℤ negsuc 0 *ℤ z) → z ≡ pos 0 → pos 0 ≤ℤ (S -ℤ y)
other_rest_nonneg S y z h e = omega (arith, ints)

pub nonneg_by : (a b : ℤ) → a ≡ b → pos 0 ≤ℤ a → pos 0 ≤ℤ b
nonneg_by a b e h = subst (λ (z : ℤ). pos 0 ≤ℤ z) e h

-- on the border an edge is nearest
nearest_on_border : (p a b c w : V3) → pos 0 <ℤ w.x → Every (λ k. pos 0 ≤ℤ dot_product k w) triangle → Somewhere (λ k. dot_product k w ≡ pos 0) triangle → TriangleNearest p a b c w.x (squared_length (spread p a b c w))
nearest_on_border p a b c w h inside (inl e) =
    let f = sym (rest_is w.x w.y w.z) ∙ e in
    by_bc (nearest_by p b c w.y w.z w.x (spread p a b c w) (nonneg_by _ _ (second_is w.x w.y w.z) inside.1.0) (nonneg_by _ _ (third_is w.x w.y w.z) inside.1.1.0) (all_shared w.x w.y w.z f) (side_bc p a b c w f))
nearest_on_border p a b c w h inside (inr (inl e)) =
    let f = sym (second_is w.x w.y w.z) ∙ e in
    by_ac (nearest_by p a c (w.x -ℤ w.z) w.z w.x (spread p a b c w) (rest_nonneg w.x w.y w.z inside.0 f) (nonneg_by _ _ (third_is w.x w.y w.z) inside.1.1.0) (back_together w.x w.z) (side_ac p a b c w f))
nearest_on_border p a b c w h inside (inr (inr (inl e))) =
    let f = sym (third_is w.x w.y w.z) ∙ e in
    by_ab (nearest_by p a b (w.x -ℤ w.y) w.y w.x (spread p a b c w) (other_rest_nonneg w.x w.y w.z inside.0 f) (nonneg_by _ _ (second_is w.x w.y w.z) inside.1.0) (back_together w.x w.y) (side_ab p a b c w f))
nearest_on_border p a b c w h inside (inr (inr (inr e))) = absurd e

triangle_carried : (p a b c : V3) (S dist S' dist' : ℤ) → pos 0 <ℤ S' → (dist' *ℤ (S *ℤ S)) ≤ℤ (dist *ℤ (S' *ℤ S')) → TriangleNearest p a b c S' dist' → TriangleNearest p a b c S dist
triangle_carried p a b c S dist S' dist' h k (by_face d f g i u) = by_face d f g i (carried (height p a b c *ℤ height p a b c) (face_weights p a b c).x S dist S' dist' (nonneg_of_pos (face_weights p a b c).x d) h k u)
triangle_carried p a b c S dist S' dist' h k (by_ab u) = by_ab (nearest_carried p a b S dist S' dist' h k u)
triangle_carried p a b c S dist S' dist' h k (by_ac u) = by_ac (nearest_carried p a c S dist S' dist' h k u)
triangle_carried p a b c S dist S' dist' h k (by_bc u) = by_bc (nearest_carried p b c S dist S' dist' h k u)

nearest_reached : (p a b c w : V3) → Reached triangle (difference p a) (difference a b) (difference a c) w → TriangleNearest p a b c w.x (squared_length (spread p a b c w))
nearest_reached p a b c w r =
    triangle_carried p a b c w.x (squared_length (spread p a b c w)) r.to.x (squared_length (spread p a b c r.to)) r.some r.nearer (nearest_on_border p a b c r.to r.some r.kept r.zero)

face_across : (p a b c w : V3) → let n = cross_product (difference b a) (difference c a) in dot_product (spread p a b c w) n ≡ w.x *ℤ dot_product (difference p a) n
face_across p a b c w =
    let r = difference p a in
    let e = difference b a in
    let f = difference c a in ap (λ (d : V3). dot_product d (cross_product e f)) (spread-turned p a b c w) ∙ across r e f w

-- the foot's distance is a bound at all weights, also negative ones
pub face_under : (p a b c w : V3) → IsUnder (height p a b c *ℤ height p a b c) (face_weights p a b c).x w.x (squared_length (spread p a b c w))
face_under p a b c w = foot_under w.x (height p a b c) (spread p a b c w) (cross_product (difference b a) (difference c a)) (face_across p a b c w)

-- the difference at the foot's weights
pub foot_is_spread : (p a b c : V3) → multiple (height p a b c) (cross_product (difference b a) (difference c a)) ≡ spread p a b c (face_weights p a b c)
foot_is_spread p a b c =
    let r = difference p a in
    let e = difference b a in
    let f = difference c a in sym (straight r e f) ∙ sym (spread-turned p a b c (weights r e f))

-- the foot's weights lead there
face_leads : (p a b c w : V3) → pos 0 ≤ℤ w.x → let h = weights (difference p a) (difference b a) (difference c a) in Leads w.x h.x (spread p a b c w) (spread p a b c h)
face_leads p a b c w hw =
    let r = difference p a in
    let e = difference b a in
    let f = difference c a in
    let n = cross_product e f in
    subst (λ (h : V3). Leads w.x (squared_length n) (spread p a b c w) h) (foot_is_spread p a b c)
    (foot_leads w.x (dot_product r n) (spread p a b c w) n hw (face_across p a b c w))

-- a flat triangle: a direction along which nothing changes
flat_direction : (p a b c y z : ℤ) → y *ℤ (b -ℤ a) +ℤ z *ℤ (c -ℤ a) ≡ pos 0 → pos 0 *ℤ (p -ℤ a) +ℤ (y *ℤ (a -ℤ b) +ℤ z *ℤ (a -ℤ c)) ≡ pos 0
flat_direction p a b c y z e =
    ring_by (p ∷ a ∷ b ∷ c ∷ y ∷ z ∷ [])
    (num (pos 0) ⊗ (v 0 ⊖ v 1) ⊕ (v 4 ⊗ (v 1 ⊖ v 2) ⊕ v 5 ⊗ (v 1 ⊖ v 3))) (num (pos 0))
    (num (negsuc 0)) (v 4 ⊗ (v 2 ⊖ v 1) ⊕ v 5 ⊗ (v 3 ⊖ v 1)) (num (pos 0)) e tt

negative_rest : (y z : ℤ) → pos 0 <ℤ y → pos 0 ≤ℤ z → (pos 1 *ℤ pos 0 +ℤ negsuc 0 *ℤ y +ℤ negsuc 0 *ℤ z) <ℤ pos 0
negative_rest y z h k = omega (arith, ints)

negative_rest_by_other : (y z : ℤ) → pos 0 ≤ℤ y → pos 0 <ℤ z → (pos 1 *ℤ pos 0 +ℤ negsuc 0 *ℤ y +ℤ negsuc 0 *ℤ z) <ℤ pos 0
negative_rest_by_other y z h k = omega (arith, ints)

flat_outside : (y z : ℤ) → pos 0 ≤ℤ y → (pos 0 <ℤ y) ⊎ (pos 0 <ℤ z) → IsOutside triangle (vector (pos 0) y z)
flat_outside y z h (inl k) = by_lt_z z (pos 0) (λ low. inl (inr (inr (inl (subst (λ (t : ℤ). t <ℤ pos 0) (sym (third_is (pos 0) y z)) low))))) (λ high. inl (inl (negative_rest y z k high)))
flat_outside y z h (inr k) = inl (inl (negative_rest_by_other y z h k))

zero_nonneg : pos 0 ≤ℤ pos 0
zero_nonneg = omega (arith, ints)

flat_triangle : (p a b c w : V3) → pos 0 <ℤ w.x → Every (λ k. pos 0 ≤ℤ dot_product k w) triangle → AreParallel (difference b a) (difference c a) → Reached triangle (difference p a) (difference a b) (difference a c) w
flat_triangle p a b c w hw inside d =
    let h = vector (pos 0) d.y d.z in
    let still : spread p a b c h ≡ origin =
    same_vector _ _ (flat_direction p.x a.x b.x c.x d.y d.z (ap (λ (t : V3). t.x) d.balanced)) (flat_direction p.y a.y b.y c.y d.y d.z (ap (λ (t : V3). t.y) d.balanced)) (flat_direction p.z a.z b.z c.z d.y d.z (ap (λ (t : V3). t.z) d.balanced)) in
    border triangle (difference p a) (difference a b) (difference a c) w h inside hw zero_nonneg
    (subst (λ (g : V3). Leads w.x (pos 0) (spread p a b c w) g) (sym still) (still_leads w.x (spread p a b c w) (nonneg_of_pos w.x hw)))
    (flat_outside d.y d.z d.first d.some)

low_rest : (S y z : ℤ) → (S -ℤ y -ℤ z) ≤ℤ pos 0 → (pos 1 *ℤ S +ℤ negsuc 0 *ℤ y +ℤ negsuc 0 *ℤ z) ≤ℤ pos 0
low_rest S y z h = omega (arith, ints)

pub low_by : (a b : ℤ) → a ≡ b → b ≤ℤ pos 0 → a ≤ℤ pos 0
low_by a b e h = subst (λ (z : ℤ). z ≤ℤ pos 0) (sym e) h

-- one of the seven candidates is a bound at all weights
pub nearest_of_triangle : (p a b c w : V3) → pos 0 <ℤ w.x → Every (λ k. pos 0 ≤ℤ dot_product k w) triangle → TriangleNearest p a b c w.x (squared_length (spread p a b c w))
nearest_of_triangle p a b c w hw inside =
    let r = difference p a in
    let e = difference b a in
    let f = difference c a in
    let n = cross_product e f in
    let h = weights r e f in
    let outward : (pos 0 <ℤ h.x) → Somewhere (λ k. dot_product k h ≤ℤ pos 0) triangle → TriangleNearest p a b c w.x (squared_length (spread p a b c w)) =
    λ d o. nearest_reached p a b c w (border triangle r (difference a b) (difference a c) w h inside hw (nonneg_of_pos h.x d) (face_leads p a b c w (nonneg_of_pos w.x hw)) (inr (d, o))) in
    by_lt_z (pos 0) h.x
    (λ d. by_lt_z (pos 0) h.y
    (λ hb. by_lt_z (pos 0) h.z
    (λ hc. by_lt_z (pos 0) (h.x -ℤ h.y -ℤ h.z)
    (λ ha. by_face d ha hb hc (face_under p a b c w))
    (λ low. outward d (inl (low_rest h.x h.y h.z low))))
    (λ low. outward d (inr (inr (inl (low_by _ _ (third_is h.x h.y h.z) low))))))
    (λ low. outward d (inr (inl (low_by _ _ (second_is h.x h.y h.z) low)))))
    (λ low. nearest_reached p a b c w (flat_triangle p a b c w hw inside (parallel e f low)))
