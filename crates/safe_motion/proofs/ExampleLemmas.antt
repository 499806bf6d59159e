-- The motions of specs/Examples.antt.
use Rattle.std.proofs.Common.{◌≡◌, ℕ, zero, suc, ◌+◌, ◌*◌, ◌^◌, ◌<◌, ◌≤◌, ℤ, pos, negsuc, ◌+ℤ◌, ◌-ℤ◌, ◌*ℤ◌, neg_ℤ, ◌<ℤ◌, [], ◌∷◌, inl, inr, ◌↔◌, ◌∙◌, subst, arith}
use Rattle.std.proofs.lemmas.Int.{ints}
use Rattle.std.proofs.Math.Nat.{pow-le-pow_right}
use Rattle.std.proofs.lemmas.Nat.{pow_pos}
use Rattle.std.proofs.lemmas.Bool.{cases_lt}
use Rattle.std.proofs.lemmas.List.Elements.{All-from_recursion}
use Rattle.std.specs.Prelude.{All}
use Rattle.space3.specs.declared.vectors.V3.{V3}
use Rattle.space3.specs.Vectors.{vector, origin, dot_product, difference}
use Rattle.whole_laws.proofs.Ring.{ring, Expr, v, num, neg, ◌⊕◌, ◌⊖◌, ◌⊗◌}
use Rattle.whole_laws.proofs.Order.{mul_pos_ℤ, pos_of_mul_ℤ}
use Rattle.whole_laws.proofs.Blends.{pos_of_times_nat}
use Rattle.safe_motion.specs.declared.motion.Move.{Move}
use Rattle.safe_motion.specs.Moments.{place_at, places_at}
use Rattle.safe_motion.specs.Meeting.{Separates}
use Rattle.safe_motion.specs.Certificates.{Serves, IsServed, PairCertificate, VolumeCertificate, volume_at}
use Rattle.safe_motion.specs.Examples.{still_point, still_vertex, turning_right, turning_left, turning_edge, swinging_down, swinging_up, swinging_edge, overturning_tetrahedron}
use Rattle.space3.proofs.VectorForms.{det}
use Rattle.safe_motion.proofs.Inside.{dot-place}
use Rattle.safe_motion.proofs.Certified.{certified_positive}

-- ---- a vertex and an edge
abbrev Apart : V3 → ℕ → ℕ → Move → Move → Type 0
Apart n p q a b = pos 0 <ℤ dot_product n (difference (place_at p q a) (place_at p q b))

separates_edge : (n : V3) (p q : ℕ) (a b c : Move) → Apart n p q a b → Apart n p q a c → Separates n (places_at p q (a ∷ [])) (places_at p q (b ∷ c ∷ []))
separates_edge n p q a b c first second =
    All-from_recursion (λ x. All (λ y. pos 0 <ℤ dot_product n (difference x y)) (places_at p q (b ∷ c ∷ []))) (places_at p q (a ∷ []))
    (All-from_recursion (λ y. pos 0 <ℤ dot_product n (difference (place_at p q a) y)) (places_at p q (b ∷ c ∷ [])) (first, (second, tt)), tt)

first_apart : (n : V3) (p q : ℕ) (a b c : Move) → Separates n (places_at p q (a ∷ [])) (places_at p q (b ∷ c ∷ [])) → Apart n p q a b
first_apart n p q a b c h = h 0 origin (omega arith) 0 origin (omega arith)

second_apart : (n : V3) (p q : ℕ) (a b c : Move) → Separates n (places_at p q (a ∷ [])) (places_at p q (b ∷ c ∷ [])) → Apart n p q a c
second_apart n p q a b c h = h 0 origin (omega arith) 1 origin (omega arith)

-- ---- the turning edge
abbrev early_normal : V3
early_normal = vector (pos 1) (pos 4) (pos 0)

abbrev late_normal : V3
late_normal = vector (pos 4) (pos 3) (pos 0)

pub turning_first : Serves early_normal still_vertex turning_edge 0 2
turning_first = record {
  before = separates_edge early_normal 0 2 still_point turning_right turning_left (record { lt = tt }) (record { lt = tt });
  after = separates_edge early_normal 1 2 still_point turning_right turning_left (record { lt = tt }) (record { lt = tt });
}

pub turning_second : Serves late_normal still_vertex turning_edge 1 2
turning_second = record {
  before = separates_edge late_normal 1 2 still_point turning_right turning_left (record { lt = tt }) (record { lt = tt });
  after = separates_edge late_normal 2 2 still_point turning_right turning_left (record { lt = tt }) (record { lt = tt });
}

pub turning_certified : PairCertificate 1 still_vertex turning_edge
turning_certified zero h = record { normal = early_normal; serves = turning_first }
turning_certified (suc zero) h = record { normal = late_normal; serves = turning_second }
turning_certified (suc (suc j)) h = absurd (omega arith)

-- 4050 (-20, 10, 0) + 40 (20, 10, 0) + 800 (-1, 22, 0) + 4500 (18, -13, 0) = 0
pub turning_not_whole : ¬ IsServed still_vertex turning_edge 0 1
turning_not_whole s =
    let n = s.normal in
    none n.x n.y n.z
    (first_apart n 0 1 still_point turning_right turning_left s.serves.before) (second_apart n 0 1 still_point turning_right turning_left s.serves.before)
    (first_apart n 1 1 still_point turning_right turning_left s.serves.after) (second_apart n 1 1 still_point turning_right turning_left s.serves.after)
  where
    none : (x y z : ℤ) → pos 0 <ℤ (x *ℤ negsuc 19 +ℤ y *ℤ pos 10 +ℤ z *ℤ pos 0) → pos 0 <ℤ (x *ℤ pos 20 +ℤ y *ℤ pos 10 +ℤ z *ℤ pos 0) →
        pos 0 <ℤ (x *ℤ negsuc 0 +ℤ y *ℤ pos 22 +ℤ z *ℤ pos 0) → pos 0 <ℤ (x *ℤ pos 18 +ℤ y *ℤ negsuc 12 +ℤ z *ℤ pos 0) → ⊥
    none x y z a b c d = omega (arith, ints)

-- ---- the swinging edge: with n intervals, each is served exactly where 50 is less than n
down-is : (x y z : ℤ) (p n : ℕ) → dot_product (vector x y z) (difference (place_at p n still_point) (place_at p n swinging_down)) ≡ pos n *ℤ (pos 10 *ℤ x +ℤ y) +ℤ pos 100 *ℤ (pos p *ℤ y)
down-is x y z p n =
    dot-place (vector x y z) still_point swinging_down p n
    ∙ ring (pos n ∷ pos p ∷ x ∷ y ∷ z ∷ []) ((v 0 ⊖ v 1) ⊗ (v 2 ⊗ num (pos 10) ⊕ v 3 ⊗ num (pos 1) ⊕ v 4 ⊗ num (pos 0)) ⊕ v 1 ⊗ (v 2 ⊗ num (pos 10) ⊕ v 3 ⊗ num (pos 101) ⊕ v 4 ⊗ num (pos 0)))
    (v 0 ⊗ (num (pos 10) ⊗ v 2 ⊕ v 3) ⊕ num (pos 100) ⊗ (v 1 ⊗ v 3)) tt

up-is : (x y z : ℤ) (p n : ℕ) → dot_product (vector x y z) (difference (place_at p n still_point) (place_at p n swinging_up)) ≡ pos n *ℤ (y -ℤ pos 10 *ℤ x) -ℤ pos 100 *ℤ (pos p *ℤ y)
up-is x y z p n =
    dot-place (vector x y z) still_point swinging_up p n
    ∙ ring (pos n ∷ pos p ∷ x ∷ y ∷ z ∷ []) ((v 0 ⊖ v 1) ⊗ (v 2 ⊗ num (negsuc 9) ⊕ v 3 ⊗ num (pos 1) ⊕ v 4 ⊗ num (pos 0)) ⊕ v 1 ⊗ (v 2 ⊗ num (negsuc 9) ⊕ v 3 ⊗ num (negsuc 98) ⊕ v 4 ⊗ num (pos 0)))
    (v 0 ⊗ (v 3 ⊖ num (pos 10) ⊗ v 2) ⊖ num (pos 100) ⊗ (v 1 ⊗ v 3)) tt

-- across the edge at the middle of the interval, times n
abbrev middle_normal : ℕ → ℕ → V3
middle_normal j n = vector (neg_ℤ (pos 5 *ℤ (pos 2 *ℤ pos j +ℤ pos 1))) (pos n) (pos 0)

natural : (n : ℕ) → 50 < n → pos 0 <ℤ pos n
natural n h = omega (arith, ints)

down_apart : (p j n : ℕ) → 50 < n → j ≤ p → Apart (middle_normal j n) p n still_point swinging_down
down_apart p j n h k =
    let e = ring (pos n ∷ pos p ∷ pos j ∷ []) (v 0 ⊗ (num (pos 10) ⊗ neg (num (pos 5) ⊗ (num (pos 2) ⊗ v 2 ⊕ num (pos 1))) ⊕ v 0) ⊕ num (pos 100) ⊗ (v 1 ⊗ v 0)) (v 0 ⊗ (v 0 ⊖ num (pos 50) ⊕ num (pos 100) ⊗ (v 1 ⊖ v 2))) tt in
    rw (down-is (middle_normal j n).x (pos n) (pos 0) p n ∙ e) (mul_pos_ℤ (pos n) _ (natural n h) (near n p j h k))
  where
    near : (n p j : ℕ) → 50 < n → j ≤ p → pos 0 <ℤ (pos n -ℤ pos 50 +ℤ pos 100 *ℤ (pos p -ℤ pos j))
    near n p j h k = omega (arith, ints)

up_apart : (p j n : ℕ) → 50 < n → p ≤ j + 1 → Apart (middle_normal j n) p n still_point swinging_up
up_apart p j n h k =
    let e = ring (pos n ∷ pos p ∷ pos j ∷ []) (v 0 ⊗ (v 0 ⊖ num (pos 10) ⊗ neg (num (pos 5) ⊗ (num (pos 2) ⊗ v 2 ⊕ num (pos 1)))) ⊖ num (pos 100) ⊗ (v 1 ⊗ v 0)) (v 0 ⊗ (v 0 ⊕ num (pos 50) ⊖ num (pos 100) ⊗ (v 1 ⊖ v 2))) tt in
    rw (up-is (middle_normal j n).x (pos n) (pos 0) p n ∙ e) (mul_pos_ℤ (pos n) _ (natural n h) (near n p j h k))
  where
    near : (n p j : ℕ) → 50 < n → p ≤ j + 1 → pos 0 <ℤ (pos n +ℤ pos 50 -ℤ pos 100 *ℤ (pos p -ℤ pos j))
    near n p j h k = omega (arith, ints)

swinging_served : (j n : ℕ) → 50 < n → IsServed still_vertex swinging_edge j n
swinging_served j n h = record {
  normal = middle_normal j n;
  serves = record {
    before = separates_edge (middle_normal j n) j n still_point swinging_down swinging_up (down_apart j j n h (omega arith)) (up_apart j j n h (omega arith));
    after = separates_edge (middle_normal j n) (j + 1) n still_point swinging_down swinging_up (down_apart (j + 1) j n h (omega arith)) (up_apart (j + 1) j n h (omega arith));
  };
}

swinging_limit : (n : ℕ) → IsServed still_vertex swinging_edge 0 n → 50 < n
swinging_limit n s =
    let m = s.normal in
    let first = rw (down-is m.x m.y m.z 0 n) at (first_apart m 0 n still_point swinging_down swinging_up s.serves.before) in
    let second = rw (up-is m.x m.y m.z 0 n) at (second_apart m 0 n still_point swinging_down swinging_up s.serves.before) in
    let third = rw (up-is m.x m.y m.z 1 n) at (second_apart m 1 n still_point swinging_down swinging_up s.serves.after) in
    let twice = ring (pos n ∷ m.x ∷ m.y ∷ []) ((v 0 ⊗ (num (pos 10) ⊗ v 1 ⊕ v 2) ⊕ num (pos 100) ⊗ (num (pos 0) ⊗ v 2)) ⊕ (v 0 ⊗ (v 2 ⊖ num (pos 10) ⊗ v 1) ⊖ num (pos 100) ⊗ (num (pos 0) ⊗ v 2))) (num (pos 2) ⊗ v 0 ⊗ v 2) tt in
    let less = ring (pos n ∷ m.x ∷ m.y ∷ []) ((v 0 ⊗ (num (pos 10) ⊗ v 1 ⊕ v 2) ⊕ num (pos 100) ⊗ (num (pos 0) ⊗ v 2)) ⊕ (v 0 ⊗ (v 2 ⊖ num (pos 10) ⊗ v 1) ⊖ num (pos 100) ⊗ (num (pos 1) ⊗ v 2))) (v 2 ⊗ (num (pos 2) ⊗ v 0 ⊖ num (pos 100))) tt in
    let up : pos 0 <ℤ m.y = pos_of_times_nat (2 * n) m.y (subst (λ z. pos 0 <ℤ z) twice (sum _ _ first second)) in
    limit n (pos_of_mul_ℤ m.y (pos 2 *ℤ pos n -ℤ pos 100) up (subst (λ z. pos 0 <ℤ z) less (sum _ _ first third)))
  where
    sum : (a b : ℤ) → pos 0 <ℤ a → pos 0 <ℤ b → pos 0 <ℤ (a +ℤ b)
    sum a b h k = omega (arith, ints)

    limit : (n : ℕ) → pos 0 <ℤ (pos 2 *ℤ pos n -ℤ pos 100) → 50 < n
    limit n h = omega (arith, ints)

pub swinging_depth : (depth : ℕ) → PairCertificate depth still_vertex swinging_edge ↔ (6 ≤ depth)
swinging_depth depth = (
  λ c. elim (cases_lt depth 6) [
    | inl shallow ↦ absurd (few (2 ^ depth) (swinging_limit (2 ^ depth) (c 0 (pow_pos depth))) (growing depth 5 (omega arith)))
    | inr deep ↦ deep
  ],
  λ deep j l. swinging_served j (2 ^ depth) (many (2 ^ depth) (growing 6 depth deep)),
)
  where
    growing : (i j : ℕ) → i ≤ j → 2 ^ i ≤ 2 ^ j
    growing i j h = pow-le-pow_right {n = 2} (omega arith) h

    few : (n : ℕ) → 50 < n → n ≤ 32 → ⊥
    few n h k = omega arith

    many : (n : ℕ) → 64 ≤ n → 50 < n
    many n h = omega arith

-- ---- the overturning tetrahedron
-- a number that goes straight from a to b, where the variables are p and q
abbrev straight : ℤ → ℤ → Expr
straight a b = (v 1 ⊖ v 0) ⊗ num a ⊕ v 0 ⊗ num b

abbrev stays : ℤ → Expr
stays a = straight a a ⊖ straight (pos 0) (pos 0)

pub overturned_between : (p q : ℕ) → q < 2 * p → 3 * p < 2 * q → volume_at p q overturning_tetrahedron <ℤ pos 0
overturned_between p q h k =
    let a = pos 100 *ℤ pos q in
    let b = pos 200 *ℤ pos p -ℤ pos 100 *ℤ pos q in
    let c = pos 100 *ℤ pos q -ℤ pos 150 *ℤ pos p in
    let e : volume_at p q overturning_tetrahedron ≡ neg_ℤ (a *ℤ (b *ℤ c)) =
    ring (pos p ∷ pos q ∷ [])
    (det (stays (pos 100), stays (pos 0), stays (pos 0)) (stays (pos 0), straight (pos 100) (negsuc 99) ⊖ straight (pos 0) (pos 0), stays (pos 0)) (stays (pos 0), stays (pos 0), straight (pos 100) (negsuc 49) ⊖ straight (pos 0) (pos 0)))
    (neg (num (pos 100) ⊗ v 1 ⊗ ((num (pos 200) ⊗ v 0 ⊖ num (pos 100) ⊗ v 1) ⊗ (num (pos 100) ⊗ v 1 ⊖ num (pos 150) ⊗ v 0)))) tt in
    rw e (below _ (mul_pos_ℤ a _ (first p q h k) (mul_pos_ℤ b c (second p q h) (third p q k))))
  where
    below : (a : ℤ) → pos 0 <ℤ a → neg_ℤ a <ℤ pos 0
    below a h = omega (arith, ints)

    first : (p q : ℕ) → q < 2 * p → 3 * p < 2 * q → pos 0 <ℤ (pos 100 *ℤ pos q)
    first p q h k = omega (arith, ints)

    second : (p q : ℕ) → q < 2 * p → pos 0 <ℤ (pos 200 *ℤ pos p -ℤ pos 100 *ℤ pos q)
    second p q h = omega (arith, ints)

    third : (p q : ℕ) → 3 * p < 2 * q → pos 0 <ℤ (pos 100 *ℤ pos q -ℤ pos 150 *ℤ pos p)
    third p q h = omega (arith, ints)

pub overturned_refused : (depth : ℕ) → ¬ VolumeCertificate depth overturning_tetrahedron
overturned_refused depth h = absurd (not_zero (certified_positive depth overturning_tetrahedron h 1 2 (record { within = omega arith; divisor = omega arith })))
  where
    not_zero : pos 0 <ℤ pos 0 → ⊥
    not_zero h = absurd (omega (arith, ints))
