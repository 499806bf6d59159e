-- Turns between flat rows, and the planes that serve them.
use Rattle.std.proofs.Common.{◌≡◌, ℤ, pos, negsuc, zero, suc, ◌+ℤ◌, ◌-ℤ◌, ◌*ℤ◌, neg_ℤ, ◌<ℤ◌, ◌≤ℤ◌, List, [], ◌∷◌, ◌∙◌, ap, arith}
use Rattle.std.proofs.lemmas.Int.{ints}
use Rattle.std.proofs.lemmas.List.Elements.{All-nil, All-cons, All-head, All-tail}
use Rattle.space3.specs.declared.vectors.V3.{V3}
use Rattle.space3.specs.Vectors.{origin, vector, dot_product}
use Rattle.whole_laws.proofs.Ring.{ring, v, num, neg, ◌⊕◌, ◌⊖◌, ◌⊗◌}
use Rattle.whole_laws.proofs.Order.{mul_pos_ℤ, mul_nonneg_ℤ, pos_of_mul_ℤ, nonneg_of_pos, add_pos_ℤ}
use Rattle.plane_cut.specs.Planes.{IsPlane, HasPlane}
use Rattle.plane_cut.specs.Calls.Elimination.{turn_of}
use Rattle.plane_cut.specs.declared.rows.Flat.{Flat}
use Rattle.plane_cut.specs.declared.cones.Cone.{Cone}
use Rattle.plane_cut.specs.declared.cones.Cone.TheVariants.{Empty, Ray, Wedge}
use Rattle.plane_cut.specs.Calls.Cones.{as_row, corners, IsCone, Narrows}

-- the product of n with a flat row
abbrev at : V3 → Flat → ℤ
at n r = dot_product n (as_row r)

abbrev left : Flat → Flat → ℤ
left a b = turn_of (as_row a) (as_row b)

abbrev Serves : V3 → Flat → Type 0
Serves n r = pos 0 <ℤ at n r

-- Cramer's rule in the plane
cramer : (n : V3) (low high row : Flat) → turn_of (as_row low) (as_row high) *ℤ dot_product n (as_row row)
    ≡ turn_of (as_row row) (as_row high) *ℤ dot_product n (as_row low) +ℤ turn_of (as_row low) (as_row row) *ℤ dot_product n (as_row high)
cramer n low high row =
    ring (n.x ∷ n.y ∷ n.z ∷ low.x.raw ∷ low.y.raw ∷ high.x.raw ∷ high.y.raw ∷ row.x.raw ∷ row.y.raw ∷ [])
    ((v 3 ⊗ v 6 ⊖ v 4 ⊗ v 5) ⊗ (v 0 ⊗ v 7 ⊕ v 1 ⊗ v 8 ⊕ v 2 ⊗ num (pos 0)))
    ((v 7 ⊗ v 6 ⊖ v 8 ⊗ v 5) ⊗ (v 0 ⊗ v 3 ⊕ v 1 ⊗ v 4 ⊕ v 2 ⊗ num (pos 0)) ⊕ (v 3 ⊗ v 8 ⊖ v 4 ⊗ v 7) ⊗ (v 0 ⊗ v 5 ⊕ v 1 ⊗ v 6 ⊕ v 2 ⊗ num (pos 0))) tt

-- the square of a row, times a product with another
along : (n : V3) (only row : Flat) → dot_product (as_row only) (as_row only) *ℤ dot_product n (as_row row)
    ≡ (only.x.raw *ℤ row.x.raw +ℤ only.y.raw *ℤ row.y.raw) *ℤ dot_product n (as_row only) +ℤ left only row *ℤ (only.x.raw *ℤ n.y -ℤ only.y.raw *ℤ n.x)
along n only row =
    ring (n.x ∷ n.y ∷ n.z ∷ only.x.raw ∷ only.y.raw ∷ row.x.raw ∷ row.y.raw ∷ [])
    ((v 3 ⊗ v 3 ⊕ v 4 ⊗ v 4 ⊕ num (pos 0) ⊗ num (pos 0)) ⊗ (v 0 ⊗ v 5 ⊕ v 1 ⊗ v 6 ⊕ v 2 ⊗ num (pos 0)))
    ((v 3 ⊗ v 5 ⊕ v 4 ⊗ v 6) ⊗ (v 0 ⊗ v 3 ⊕ v 1 ⊗ v 4 ⊕ v 2 ⊗ num (pos 0)) ⊕ (v 3 ⊗ v 6 ⊖ v 4 ⊗ v 5) ⊗ (v 3 ⊗ v 1 ⊖ v 4 ⊗ v 0)) tt

turn_back : (a b : Flat) → turn_of (as_row b) (as_row a) ≡ neg_ℤ (turn_of (as_row a) (as_row b))
turn_back a b = ring (a.x.raw ∷ a.y.raw ∷ b.x.raw ∷ b.y.raw ∷ []) (v 2 ⊗ v 1 ⊖ v 3 ⊗ v 0) (neg (v 0 ⊗ v 3 ⊖ v 1 ⊗ v 2)) tt

-- ---- signs
not_pos_times : (t x : ℤ) → t ≤ℤ pos 0 → pos 0 <ℤ x → (t *ℤ x) ≤ℤ pos 0
not_pos_times t (pos zero) h k = absurd (omega (arith, ints))
not_pos_times t (negsuc x) h k = absurd (omega (arith, ints))
not_pos_times (pos zero) (pos (suc x)) h k = omega (arith, ints)
not_pos_times (pos (suc t)) (pos (suc x)) h k = absurd (omega (arith, ints))
not_pos_times (negsuc t) (pos (suc x)) h k = omega (arith, ints)

inside_low : (d z t x f y : ℤ) → d *ℤ z ≡ t *ℤ x +ℤ f *ℤ y → pos 0 <ℤ d → pos 0 ≤ℤ t → pos 0 <ℤ x → pos 0 <ℤ f → pos 0 <ℤ y → pos 0 <ℤ z
inside_low d z t x f y e hd ht hx hf hy =
    pos_of_mul_ℤ d z hd (rw e (add_pos_ℤ (t *ℤ x) (f *ℤ y) (mul_nonneg_ℤ t x ht (nonneg_of_pos x hx)) (mul_pos_ℤ f y hf hy)))

swapped_sum : (d z t x f y : ℤ) → d *ℤ z ≡ t *ℤ x +ℤ f *ℤ y → d *ℤ z ≡ f *ℤ y +ℤ t *ℤ x
swapped_sum d z t x f y e = e ∙ swap (t *ℤ x) (f *ℤ y)
  where
    swap : (a b : ℤ) → a +ℤ b ≡ b +ℤ a
    swap a b = omega (arith, ints)

outside : (d z t x f y : ℤ) → d *ℤ z ≡ t *ℤ x +ℤ f *ℤ y → pos 0 <ℤ d → pos 0 <ℤ z → t ≤ℤ pos 0 → pos 0 <ℤ x → pos 0 <ℤ f → pos 0 <ℤ y
outside d z t x f y e hd hz ht hx hf = pos_of_mul_ℤ f y hf (rest (d *ℤ z) (t *ℤ x) (f *ℤ y) e (mul_pos_ℤ d z hd hz) (not_pos_times t x ht hx))
  where
    rest : (a b c : ℤ) → a ≡ b +ℤ c → pos 0 <ℤ a → b ≤ℤ pos 0 → pos 0 <ℤ c
    rest a b c e h k = omega (arith, ints)

nowhere : (d z t x f y : ℤ) → d *ℤ z ≡ t *ℤ x +ℤ f *ℤ y → pos 0 <ℤ d → pos 0 <ℤ z → t ≤ℤ pos 0 → pos 0 <ℤ x → f ≤ℤ pos 0 → pos 0 <ℤ y → ⊥
nowhere d z t x f y e hd hz ht hx hf hy = clash (d *ℤ z) (t *ℤ x) (f *ℤ y) e (mul_pos_ℤ d z hd hz) (not_pos_times t x ht hx) (not_pos_times f y hf hy)
  where
    clash : (a b c : ℤ) → a ≡ b +ℤ c → pos 0 <ℤ a → b ≤ℤ pos 0 → c ≤ℤ pos 0 → ⊥
    clash a b c e h k l = omega (arith, ints)

weaker : (a : ℤ) → a <ℤ pos 0 → a ≤ℤ pos 0
weaker a h = omega (arith, ints)

turned : (a b : ℤ) → a ≡ neg_ℤ b → b <ℤ pos 0 → pos 0 <ℤ a
turned a b e h = omega (arith, ints)

-- ---- one or two corners
one : (n : V3) (a : Flat) → Serves n a → IsPlane n (as_row a ∷ [])
one n a h = All-cons (λ r. pos 0 <ℤ dot_product n r) (as_row a) [] h (All-nil (λ r. pos 0 <ℤ dot_product n r))

two : (n : V3) (a b : Flat) → Serves n a → Serves n b → IsPlane n (as_row a ∷ as_row b ∷ [])
two n a b h k = All-cons (λ r. pos 0 <ℤ dot_product n r) (as_row a) (as_row b ∷ []) h (one n b k)

at_one : (n : V3) (a : Flat) (rows : List V3) → IsPlane n (as_row a ∷ rows) → Serves n a
at_one n a rows h = All-head (λ r. pos 0 <ℤ dot_product n r) (as_row a) rows h

at_two : (n : V3) (a b : Flat) → IsPlane n (as_row a ∷ as_row b ∷ []) → Serves n b
at_two n a b h = at_one n b [] (All-tail (λ r. pos 0 <ℤ dot_product n r) (as_row a) (as_row b ∷ []) h)

-- ---- a ray and one more row
pub opens_left : (only row : Flat) → pos 0 <ℤ left only row → Narrows (Ray only) (λ n. Serves n row) (Wedge only row)
opens_left only row h = record {
  valid = h;
  same = λ n. (λ p. (one n only (at_one n only (as_row row ∷ []) p), at_two n only row p), λ p. two n only row (at_one n only [] p.0) p.1);
}

pub opens_right : (only row : Flat) → left only row <ℤ pos 0 → Narrows (Ray only) (λ n. Serves n row) (Wedge row only)
opens_right only row h = record {
  valid = turned (turn_of (as_row row) (as_row only)) (left only row) (turn_back only row) h;
  same = λ n. (λ p. (one n only (at_two n row only p), at_one n row (as_row only ∷ []) p), λ p. two n row only p.1 (at_one n only [] p.0));
}

abbrev scalar_of : Flat → Flat → ℤ
scalar_of a b = a.x.raw *ℤ b.x.raw +ℤ a.y.raw *ℤ b.y.raw

-- a row along the only one
level : (n : V3) (only row : Flat) → left only row ≡ pos 0 →
    dot_product (as_row only) (as_row only) *ℤ dot_product n (as_row row) ≡ scalar_of only row *ℤ dot_product n (as_row only)
level n only row e = along n only row ∙ ap (λ z. scalar_of only row *ℤ dot_product n (as_row only) +ℤ z *ℤ (only.x.raw *ℤ n.y -ℤ only.y.raw *ℤ n.x)) e ∙ drops (scalar_of only row *ℤ dot_product n (as_row only)) (only.x.raw *ℤ n.y -ℤ only.y.raw *ℤ n.x)
  where
    drops : (a b : ℤ) → a +ℤ pos 0 *ℤ b ≡ a
    drops a b = omega (arith, ints)

pub stays_ray : (only row : Flat) → IsCone (Ray only) → left only row ≡ pos 0 → pos 0 <ℤ scalar_of only row → Narrows (Ray only) (λ n. Serves n row) (Ray only)
stays_ray only row valid e h = record {
  valid = valid;
  same = λ n. (λ p. (p, pos_of_mul_ℤ (dot_product (as_row only) (as_row only)) (dot_product n (as_row row)) valid (rw (level n only row e) (mul_pos_ℤ (scalar_of only row) (dot_product n (as_row only)) h (at_one n only [] p)))), λ p. p.0);
}

pub no_ray : (only row : Flat) → IsCone (Ray only) → left only row ≡ pos 0 → scalar_of only row ≤ℤ pos 0 → ¬ ((n : V3) × IsPlane n (corners (Ray only)) × Serves n row)
no_ray only row valid e h p =
    clash _ _ (level p.0 only row e) (mul_pos_ℤ _ _ valid p.2) (not_pos_times (scalar_of only row) (dot_product p.0 (as_row only)) h (at_one p.0 only [] p.1))
  where
    clash : (a b : ℤ) → a ≡ b → pos 0 <ℤ a → b ≤ℤ pos 0 → ⊥
    clash a b e h k = omega (arith, ints)

-- ---- a wedge and one more row
pub widens_high : (low high row : Flat) → IsCone (Wedge low high) → pos 0 <ℤ turn_of (as_row low) (as_row row) → turn_of (as_row row) (as_row high) <ℤ pos 0 → Narrows (Wedge low high) (λ n. Serves n row) (Wedge low row)
widens_high low high row d f t = record {
  valid = f;
  same = λ n. (
    λ p. (two n low high (at_one n low (as_row row ∷ []) p) (outside (left low high) (at n row) (left row high) (at n low) (left low row) (at n high) (cramer n low high row) d (at_two n low row p) (weaker _ t) (at_one n low (as_row row ∷ []) p) f), at_two n low row p),
    λ p. two n low row (at_one n low (as_row high ∷ []) p.0) p.1,
  );
}

pub widens_low : (low high row : Flat) → IsCone (Wedge low high) → turn_of (as_row low) (as_row row) <ℤ pos 0 → pos 0 <ℤ turn_of (as_row row) (as_row high) → Narrows (Wedge low high) (λ n. Serves n row) (Wedge row high)
widens_low low high row d f t = record {
  valid = t;
  same = λ n. (
    λ p. (two n low high (outside (left low high) (at n row) (left low row) (at n high) (left row high) (at n low) (swapped_sum (left low high) (at n row) (left row high) (at n low) (left low row) (at n high) (cramer n low high row)) d (at_one n row (as_row high ∷ []) p) (weaker _ f) (at_two n row high p) t) (at_two n row high p), at_one n row (as_row high ∷ []) p),
    λ p. two n row high p.1 (at_two n low high p.0),
  );
}

pub stays_left : (low high row : Flat) → IsCone (Wedge low high) → pos 0 <ℤ turn_of (as_row low) (as_row row) → pos 0 ≤ℤ turn_of (as_row row) (as_row high) → Narrows (Wedge low high) (λ n. Serves n row) (Wedge low high)
stays_left low high row d f t = record {
  valid = d;
  same = λ n. (λ p. (p, inside_low (left low high) (at n row) (left row high) (at n low) (left low row) (at n high) (cramer n low high row) d t (at_one n low (as_row high ∷ []) p) f (at_two n low high p)), λ p. p.0);
}

pub stays_right : (low high row : Flat) → IsCone (Wedge low high) → pos 0 ≤ℤ turn_of (as_row low) (as_row row) → pos 0 <ℤ turn_of (as_row row) (as_row high) → Narrows (Wedge low high) (λ n. Serves n row) (Wedge low high)
stays_right low high row d f t = record {
  valid = d;
  same = λ n. (λ p. (p, inside_low (left low high) (at n row) (left low row) (at n high) (left row high) (at n low) (swapped_sum (left low high) (at n row) (left row high) (at n low) (left low row) (at n high) (cramer n low high row)) d f (at_two n low high p) t (at_one n low (as_row high ∷ []) p)), λ p. p.0);
}

pub no_wedge : (low high row : Flat) → IsCone (Wedge low high) → turn_of (as_row low) (as_row row) ≤ℤ pos 0 → turn_of (as_row row) (as_row high) ≤ℤ pos 0 → ¬ ((n : V3) × IsPlane n (corners (Wedge low high)) × Serves n row)
no_wedge low high row d f t p =
    nowhere (left low high) (at p.0 row) (left row high) (at p.0 low) (left low row) (at p.0 high) (cramer p.0 low high row) d p.2 t (at_one p.0 low (as_row high ∷ []) p.1) f (at_two p.0 low high p.1)

-- ---- each cone has a plane
pub cone_plane : (cone : Cone) → IsCone cone → HasPlane (corners cone)
cone_plane Empty h = (origin, All-nil (λ r. pos 0 <ℤ dot_product origin r))
cone_plane (Ray a) h = (as_row a, one (as_row a) a h)
cone_plane (Wedge a b) h =
    let n = vector (b.y.raw -ℤ a.y.raw) (a.x.raw -ℤ b.x.raw) (pos 0) in
    let on_a : dot_product n (as_row a) ≡ turn_of (as_row a) (as_row b) =
    ring (a.x.raw ∷ a.y.raw ∷ b.x.raw ∷ b.y.raw ∷ []) ((v 3 ⊖ v 1) ⊗ v 0 ⊕ (v 0 ⊖ v 2) ⊗ v 1 ⊕ num (pos 0) ⊗ num (pos 0)) (v 0 ⊗ v 3 ⊖ v 1 ⊗ v 2) tt in
    let on_b : dot_product n (as_row b) ≡ turn_of (as_row a) (as_row b) =
    ring (a.x.raw ∷ a.y.raw ∷ b.x.raw ∷ b.y.raw ∷ []) ((v 3 ⊖ v 1) ⊗ v 2 ⊕ (v 0 ⊖ v 2) ⊗ v 3 ⊕ num (pos 0) ⊗ num (pos 0)) (v 0 ⊗ v 3 ⊖ v 1 ⊗ v 2) tt in
    (n, two n a b (rw on_a h) (rw on_b h))
