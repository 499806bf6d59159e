-- Two lists of points meet exactly where no plane serves all their differences.
use Rattle.std.proofs.Common.{◌≡◌, ℕ, ◌+◌, ◌*◌, ◌<◌, ◌^◌, ℤ, pos, negsuc, ◌+ℤ◌, ◌-ℤ◌, ◌*ℤ◌, ◌<ℤ◌, List, [], ◌∷◌, ◌++◌, ◌⊎◌, inl, inr, length, refl, sym, ◌∙◌, ap, subst, arith, IsTrue, lit≤}
use Rattle.std.proofs.lemmas.Int.{ints}
use Rattle.std.specs.Prelude.{◌↔◌}
use Rattle.std.proofs.Common.{take, set, get_or, append_assoc, Bool, true, false, not}
use Rattle.std.proofs.lemmas.Grind.{take-set_at}
use Rattle.std.proofs.lemmas.List.{take_more, map-append}
use Rattle.std.specs.List.{All, sum}
use Rattle.std.proofs.lemmas.List.Elements.{All-nil, All-cons, All-head, All-tail, All-append, All-map, All-weaker}
use Rattle.space3.specs.declared.vectors.V3.{V3}
use Rattle.space3.specs.Vectors.{origin, sum_of, difference, dot_product, Within}
use Rattle.space3.specs.Weights.{weighted_sum}
use Rattle.safe_motion.specs.Meeting.{Meets, Separates}
use Rattle.space3.proofs.Bounds.{within-difference}
use Rattle.list_laws.proofs.Elements.{All-map_back, All-append_left, All-append_right}
use Rattle.whole_laws.proofs.Ring.{ring, v, ◌⊕◌, ◌⊗◌}
use Rattle.plane_cut.specs.Planes.{HasPlane}
use Rattle.plane_cut.specs.Calls.Differences.{differences, differences_from}
use Rattle.space3.proofs.Combinations.{mixed, same_vector}
use Rattle.plane_cut.proofs.Elimination.{plane_or_zero}
use Rattle.plane_cut.proofs.Weights.{mixed_weights, length-mixed, sum-mixed, weighted-mixed, some_mixed, IsOne, each_one}
use Rattle.safe_motion.proofs.Separation.{meeting_excludes_separation}

-- ---- facts of each difference
pub All-differences : (P : V3 → Type 0) (xs ys : List V3) → All (λ a. All (λ b. P (difference a b)) ys) xs → All P (differences xs ys)
All-differences P [] ys h = All-nil P
All-differences P (a ∷ xs) ys h =
    All-append P (differences_from a ys) (differences xs ys) (All-map P (difference a) ys (All-head (λ a. All (λ b. P (difference a b)) ys) a xs h))
    (All-differences P xs ys (All-tail (λ a. All (λ b. P (difference a b)) ys) a xs h))

pub differences-All : (P : V3 → Type 0) (xs ys : List V3) → All P (differences xs ys) → All (λ a. All (λ b. P (difference a b)) ys) xs
differences-All P [] ys h = All-nil (λ a. All (λ b. P (difference a b)) ys)
differences-All P (a ∷ xs) ys h =
    All-cons (λ a. All (λ b. P (difference a b)) ys) a xs (All-map_back P (difference a) ys (All-append_left P (differences_from a ys) (differences xs ys) h))
    (differences-All P xs ys (All-append_right P (differences_from a ys) (differences xs ys) h))

-- ---- sums of differences, with weights on each list
record IsMeetingSum (xs ys : List V3) (z : V3) : Type 0 where
  pub left : List ℕ
  pub right : List ℕ
  pub each_left : length left ≡ length xs
  pub each_right : length right ≡ length ys
  pub some : 0 < sum left
  pub balanced : sum left ≡ sum right
  pub same : weighted_sum left xs ≡ sum_of z (weighted_sum right ys)

mixed_sums : (i j : ℤ) (a b s t : V3) → mixed i j (sum_of a s) (sum_of b t) ≡ sum_of (mixed i j a b) (mixed i j s t)
mixed_sums i j a b s t = same_vector _ _ (one i j a.x b.x s.x t.x) (one i j a.y b.y s.y t.y) (one i j a.z b.z s.z t.z)
  where
    one : (i j a b s t : ℤ) → i *ℤ (a +ℤ s) +ℤ j *ℤ (b +ℤ t) ≡ (i *ℤ a +ℤ j *ℤ b) +ℤ (i *ℤ s +ℤ j *ℤ t)
    one i j a b s t = ring (i ∷ j ∷ a ∷ b ∷ s ∷ t ∷ []) (v 0 ⊗ (v 2 ⊕ v 4) ⊕ v 1 ⊗ (v 3 ⊕ v 5)) ((v 0 ⊗ v 2 ⊕ v 1 ⊗ v 3) ⊕ (v 0 ⊗ v 4 ⊕ v 1 ⊗ v 5)) tt

meeting_joins : (xs ys : List V3) (i j : ℤ) (a b : V3) → pos 0 <ℤ i → pos 0 <ℤ j → IsMeetingSum xs ys a → IsMeetingSum xs ys b → IsMeetingSum xs ys (mixed i j a b)
meeting_joins xs ys (negsuc i) j a b hi hj f g = absurd (omega (arith, ints))
meeting_joins xs ys (pos i) (negsuc j) a b hi hj f g = absurd (omega (arith, ints))
meeting_joins xs ys (pos i) (pos j) a b hi hj f g =
    let el : length f.left ≡ length g.left = omega (arith, f.each_left, g.each_left) in
    let er : length f.right ≡ length g.right = omega (arith, f.each_right, g.each_right) in record {
      left = mixed_weights i j f.left g.left;
      right = mixed_weights i j f.right g.right;
      each_left = length-mixed i j f.left g.left el ∙ f.each_left;
      each_right = length-mixed i j f.right g.right er ∙ f.each_right;
      some = some_mixed i j f.left g.left (omega (arith, ints)) el f.some;
      balanced = sum-mixed i j f.left g.left el ∙ (λ t. i * f.balanced t + j * g.balanced t) ∙ sym (sum-mixed i j f.right g.right er);
      same = weighted-mixed i j f.left g.left xs f.each_left g.each_left ∙ (λ t. mixed (pos i) (pos j) (f.same t) (g.same t))
          ∙ mixed_sums (pos i) (pos j) a b (weighted_sum f.right ys) (weighted_sum g.right ys)
          ∙ ap (λ (w : V3). sum_of (mixed (pos i) (pos j) a b) w) (sym (weighted-mixed i j f.right g.right ys f.each_right g.each_right));
    }

one_difference : (xs ys : List V3) (a b : V3) → IsOne xs a → IsOne ys b → IsMeetingSum xs ys (difference a b)
one_difference xs ys a b f g = record {
  left = f.weights;
  right = g.weights;
  each_left = f.each;
  each_right = g.each;
  some = omega (arith, f.one);
  balanced = f.one ∙ sym g.one;
  same = f.same ∙ same_vector _ _ (back a.x b.x) (back a.y b.y) (back a.z b.z) ∙ ap (sum_of (difference a b)) (sym g.same);
}
  where
    back : (a b : ℤ) → a ≡ (a -ℤ b) +ℤ b
    back a b = omega (arith, ints)

each_difference : (xs ys : List V3) → All (IsMeetingSum xs ys) (differences xs ys)
each_difference xs ys =
    All-differences (IsMeetingSum xs ys) xs ys
    (All-weaker (IsOne xs) (λ a. All (λ b. IsMeetingSum xs ys (difference a b)) ys)
    (λ a f. All-weaker (IsOne ys) (λ b. IsMeetingSum xs ys (difference a b)) (λ b g. one_difference xs ys a b f g) ys (each_one ys)) xs (each_one xs))

meets_by : (xs ys : List V3) → IsMeetingSum xs ys origin → Meets xs ys
meets_by xs ys m = (
  m.left,
  m.right,
  record {
    each_left = m.each_left;
    each_right = m.each_right;
    some = m.some;
    balanced = m.balanced;
    common = m.same ∙ same_vector _ _ (zero_add (weighted_sum m.right ys).x) (zero_add (weighted_sum m.right ys).y) (zero_add (weighted_sum m.right ys).z);
  },
)
  where
    zero_add : (a : ℤ) → pos 0 +ℤ a ≡ a
    zero_add a = omega (arith, ints)

pub plane_or_meeting : (xs ys : List V3) → HasPlane (differences xs ys) ⊎ Meets xs ys
plane_or_meeting xs ys = named (plane_or_zero (IsMeetingSum xs ys) (record { joins = meeting_joins xs ys }) (differences xs ys) (each_difference xs ys))
  where
    named : HasPlane (differences xs ys) ⊎ IsMeetingSum xs ys origin → HasPlane (differences xs ys) ⊎ Meets xs ys
    named (inl p) = inl p
    named (inr m) = inr (meets_by xs ys m)

-- ---- a plane excludes a common point
pub plane_excludes_meeting : (xs ys : List V3) → HasPlane (differences xs ys) → Meets xs ys → ⊥
plane_excludes_meeting xs ys p m = meeting_excludes_separation p.0 m.0 m.1 xs ys m.2 (differences-All (λ r. pos 0 <ℤ dot_product p.0 r) xs ys p.1)

-- ---- the rows of the differences
pub differences_more : (a d : V3) (ys : List V3) (j : ℕ) → j < length ys → differences_from a (take (j + 1) ys) ≡ differences_from a (take j ys) ++ difference a (get_or ys j d) ∷ []
differences_more a d ys j l = ap (differences_from a) (take_more ys j d l) ∙ map-append (difference a) (take j ys) (get_or ys j d ∷ [])

pub row_put : (rows front : List V3) (a d : V3) (ys : List V3) (m j : ℕ) (r : V3) → m < length rows → j < length ys → r ≡ difference a (get_or ys j d) → take m rows ≡ front ++ differences_from a (take j ys) →
    take (m + 1) (set rows m r) ≡ front ++ differences_from a (take (j + 1) ys)
row_put rows front a d ys m j r lm lj e h =
    take-set_at rows m (m + 1) r refl lm ∙ (λ t. h t ++ e t ∷ []) ∙ append_assoc front (differences_from a (take j ys)) (difference a (get_or ys j d) ∷ [])
    ∙ ap (λ zs. front ++ zs) (sym (differences_more a d ys j lj))

pub differences_within : (xs ys : List V3) → All (Within (2 ^ 28)) xs → All (Within (2 ^ 28)) ys → All (Within (2 ^ 29)) (differences xs ys)
differences_within xs ys h k =
    All-differences (Within (2 ^ 29)) xs ys
    (All-weaker (Within (2 ^ 28)) (λ a. All (λ b. Within (2 ^ 29) (difference a b)) ys) (λ a f. All-weaker (Within (2 ^ 28)) (λ b. Within (2 ^ 29) (difference a b)) (λ b g. within-difference (2 ^ 28) (2 ^ 28) (2 ^ 29) a b f g (lit≤ tt)) ys k) xs h)

-- ---- the answer
meeting_from : (xs ys : List V3) → ¬ (HasPlane (differences xs ys)) → Meets xs ys
meeting_from xs ys h = other (plane_or_meeting xs ys)
  where
    other : HasPlane (differences xs ys) ⊎ Meets xs ys → Meets xs ys
    other (inl p) = absurd (h p)
    other (inr m) = m

pub decides_meeting : (xs ys rows : List V3) (found t : Bool) → rows ≡ differences xs ys → found ≡ not t → (IsTrue found ↔ HasPlane rows) → IsTrue t ↔ Meets xs ys
decides_meeting xs ys rows found true e f h = (λ _. meeting_from xs ys (λ p. clash (h.1 (subst HasPlane (sym e) p))), λ _. refl)
  where
    clash : IsTrue found → ⊥
    clash t = cc
decides_meeting xs ys rows found false e f h = (λ t. cc, λ m. absurd (plane_excludes_meeting xs ys (subst HasPlane e (h.0 f)) m))

pub separated_or : (xs ys : List V3) → ((n : V3) × Separates n xs ys) ⊎ Meets xs ys
separated_or xs ys = named (plane_or_meeting xs ys)
  where
    named : HasPlane (differences xs ys) ⊎ Meets xs ys → ((n : V3) × Separates n xs ys) ⊎ Meets xs ys
    named (inl p) = inl (p.0, differences-All (λ r. pos 0 <ℤ dot_product p.0 r) xs ys p.1)
    named (inr m) = inr m
