-- Elimination of one variable after the other, over lists of vectors of any size. Each eliminated row is a
-- combination of the rows with positive factors. In the end a row is left, which is the zero vector, or none,
-- and then the steps give a plane.
use Rattle.std.proofs.Common.{◌≡◌, ℤ, pos, ◌+ℤ◌, ◌*ℤ◌, neg_ℤ, ◌<ℤ◌, List, [], ◌∷◌, ◌++◌, ◌⊎◌, inl, inr, sym, ◌∙◌, subst, arith}
use Rattle.std.proofs.lemmas.Int.{ints}
use Rattle.std.specs.List.{All}
use Rattle.std.proofs.lemmas.List.Elements.{All-nil, All-cons, All-head, All-tail, All-append, All-weaker}
use Rattle.space3.specs.declared.vectors.V3.{V3}
use Rattle.space3.specs.Vectors.{origin, dot_product}
use Rattle.list_laws.proofs.Elements.{All-append_left, All-append_right}
use Rattle.whole_laws.proofs.Ring.{ring, v, num, neg, ◌⊕◌, ◌⊗◌}
use Rattle.plane_cut.specs.Planes.{IsPlane, HasPlane}
use Rattle.space3.proofs.Combinations.{mixed, dot-mixed, same_vector}
use Rattle.plane_cut.proofs.Linear.{along, Axis, axis_x, axis_y, axis_z}
use Rattle.plane_cut.proofs.Step.{Flat, Agree, Holds, serve, by_sign}

-- the vectors of which M holds are closed under combinations with positive factors
pub record IsClosed (M : V3 → Type 0) : Type 0 where
  pub joins : (i j : ℤ) (a b : V3) → pos 0 <ℤ i → pos 0 <ℤ j → M a → M b → M (mixed i j a b)

-- vectors of which M holds, and each plane of theirs has P
record Gathered (M P : V3 → Type 0) : Type 0 where
  pub list : List V3
  pub members : All M list
  pub serves : (n : V3) → IsPlane n list → P n

gather_none : (M P : V3 → Type 0) → ((n : V3) → P n) → Gathered M P
gather_none M P f = record { list = []; members = All-nil M; serves = λ n h. f n }

gather_one : (M P : V3 → Type 0) (r : V3) → M r → ((n : V3) → pos 0 <ℤ dot_product n r → P n) → Gathered M P
gather_one M P r m f = record {
  list = r ∷ [];
  members = All-cons M r [] m (All-nil M);
  serves = λ n h. f n (All-head (λ s. pos 0 <ℤ dot_product n s) r [] h);
}

gather_both : (M P Q R : V3 → Type 0) → ((n : V3) → P n → Q n → R n) → Gathered M P → Gathered M Q → Gathered M R
gather_both M P Q R f a b = record {
  list = a.list ++ b.list;
  members = All-append M a.list b.list a.members b.members;
  serves = λ n h. f n (a.serves n (All-append_left (λ r. pos 0 <ℤ dot_product n r) a.list b.list h)) (b.serves n (All-append_right (λ r. pos 0 <ℤ dot_product n r) a.list b.list h));
}

-- one list for all rows
gather_each : (M N : V3 → Type 0) (F : V3 → V3 → Type 0) → ((r : V3) → N r → Gathered M (λ n. F n r)) → (rows : List V3) → All N rows → Gathered M (λ n. All (F n) rows)
gather_each M N F f [] h = gather_none M (λ n. All (F n) []) (λ n. All-nil (F n))
gather_each M N F f (r ∷ rows) h =
    gather_both M (λ n. F n r) (λ n. All (F n) rows) (λ n. All (F n) (r ∷ rows)) (λ n a b. All-cons (F n) r rows a b)
    (f r (All-head N r rows h)) (gather_each M N F f rows (All-tail N r rows h))

-- ---- one step
abbrev IsGone : (V3 → Type 0) → Axis → V3 → Type 0
IsGone M axis r = M r × (axis.of r ≡ pos 0)

abbrev FlatAt : Axis → V3 → V3 → Type 0
FlatAt axis n r = Flat (dot_product n) axis.of r

abbrev AgreeAt : Axis → V3 → V3 → V3 → Type 0
AgreeAt axis n p q = Agree (dot_product n) axis.of p q

clash : {X : Type 0} (z : ℤ) → z ≡ pos 0 → pos 0 <ℤ z → X
clash z e h = absurd (omega (arith, ints))

clash_neg : {X : Type 0} (z : ℤ) → z ≡ pos 0 → pos 0 <ℤ neg_ℤ z → X
clash_neg z e h = absurd (omega (arith, ints))

not_above : {X : Type 0} (z : ℤ) → pos 0 <ℤ neg_ℤ z → pos 0 <ℤ z → X
not_above z h k = absurd (omega (arith, ints))

not_below : {X : Type 0} (z : ℤ) → pos 0 <ℤ z → z <ℤ pos 0 → X
not_below z h k = absurd (omega (arith, ints))

not_zero : {X : Type 0} (z : ℤ) → z ≡ pos 0 → z <ℤ pos 0 → X
not_zero z h k = absurd (omega (arith, ints))

flats : (M : V3 → Type 0) (axis : Axis) (r : V3) → M r → Gathered (IsGone M axis) (λ n. FlatAt axis n r)
flats M axis r m = by_sign (axis.of r)
    (λ h. gather_none (IsGone M axis) (λ n. FlatAt axis n r) (λ n. record { flat = λ e. clash (axis.of r) e h }))
    (λ e. gather_one (IsGone M axis) (λ n. FlatAt axis n r) r (m, e) (λ n h. record { flat = λ _. h }))
    (λ h. gather_none (IsGone M axis) (λ n. FlatAt axis n r) (λ n. record { flat = λ e. clash_neg (axis.of r) e h }))

-- the combination without the variable
combination : (M : V3 → Type 0) (axis : Axis) → IsClosed M → (p q : V3) → M p → M q → pos 0 <ℤ axis.of p → pos 0 <ℤ neg_ℤ (axis.of q) → Gathered (IsGone M axis) (λ n. AgreeAt axis n p q)
combination M axis closed p q mp mq hp hq =
    gather_one (IsGone M axis) (λ n. AgreeAt axis n p q) (mixed (neg_ℤ (axis.of q)) (axis.of p) p q)
    (closed.joins (neg_ℤ (axis.of q)) (axis.of p) p q hq hp mp mq, axis.of-mixed (neg_ℤ (axis.of q)) (axis.of p) p q ∙ cancels (axis.of p) (axis.of q))
    (λ n h. record { agree = λ _ _. subst (λ (z : ℤ). pos 0 <ℤ z) (dot-mixed n p q (neg_ℤ (axis.of q)) (axis.of p)) h })
  where
    cancels : (a b : ℤ) → neg_ℤ b *ℤ a +ℤ a *ℤ b ≡ pos 0
    cancels a b = ring (a ∷ b ∷ []) (neg (v 1) ⊗ v 0 ⊕ v 0 ⊗ v 1) (num (pos 0)) tt

with_below : (M : V3 → Type 0) (axis : Axis) → IsClosed M → (p : V3) → M p → pos 0 <ℤ axis.of p → (q : V3) → M q → Gathered (IsGone M axis) (λ n. AgreeAt axis n p q)
with_below M axis closed p mp hp q mq = by_sign (axis.of q)
    (λ h. gather_none (IsGone M axis) (λ n. AgreeAt axis n p q) (λ n. record { agree = λ _ k. not_below (axis.of q) h k }))
    (λ e. gather_none (IsGone M axis) (λ n. AgreeAt axis n p q) (λ n. record { agree = λ _ k. not_zero (axis.of q) e k }))
    (λ h. combination M axis closed p q mp mq hp h)

pairs_of : (M : V3 → Type 0) (axis : Axis) → IsClosed M → (rows : List V3) → All M rows → (p : V3) → M p → Gathered (IsGone M axis) (λ n. All (AgreeAt axis n p) rows)
pairs_of M axis closed rows h p mp = by_sign (axis.of p)
    (λ hp. gather_each (IsGone M axis) M (λ n q. AgreeAt axis n p q) (with_below M axis closed p mp hp) rows h)
    (λ e. gather_each (IsGone M axis) M (λ n q. AgreeAt axis n p q) (λ q _. gather_none (IsGone M axis) (λ n. AgreeAt axis n p q) (λ n. record { agree = λ a _. clash (axis.of p) e a })) rows h)
    (λ k. gather_each (IsGone M axis) M (λ n q. AgreeAt axis n p q) (λ q _. gather_none (IsGone M axis) (λ n. AgreeAt axis n p q) (λ n. record { agree = λ a _. not_above (axis.of p) k a })) rows h)

-- a plane of the eliminated rows, moved along the axis, is one of the rows
record Eliminated (M : V3 → Type 0) (rows : List V3) : Type 0 where
  pub list : List V3
  pub members : All M list
  pub lifts : HasPlane list → HasPlane rows

pub lifted : (axis : Axis) (n : V3) (rows : List V3) → All (FlatAt axis n) rows → All (λ p. All (AgreeAt axis n p) rows) rows → HasPlane rows
lifted axis n rows fl ag =
    let s = serve (dot_product n) axis.of rows fl ag in (
      mixed s.s s.y n axis.unit,
      All-weaker (Holds (dot_product n) axis.of s.s s.y) (λ r. pos 0 <ℤ dot_product (mixed s.s s.y n axis.unit) r)
          (λ r h. subst (λ (z : ℤ). pos 0 <ℤ z) (sym (along axis s.s s.y n r)) h) rows s.holds,
    )

eliminate : (M : V3 → Type 0) (axis : Axis) → IsClosed M → (rows : List V3) → All M rows → Eliminated (IsGone M axis) rows
eliminate M axis closed rows h =
    let a = gather_each (IsGone M axis) M (λ n r. FlatAt axis n r) (flats M axis) rows h in
    let b = gather_each (IsGone M axis) M (λ n p. All (AgreeAt axis n p) rows) (pairs_of M axis closed rows h) rows h in
    let g = gather_both (IsGone M axis) (λ n. All (FlatAt axis n) rows) (λ n. All (λ p. All (AgreeAt axis n p) rows) rows) (λ n. HasPlane rows) (λ n. lifted axis n rows) a b in
    record { list = g.list; members = g.members; lifts = λ t. g.serves t.0 t.1 }

gone_closed : (M : V3 → Type 0) (axis : Axis) → IsClosed M → IsClosed (IsGone M axis)
gone_closed M axis closed = record {
  joins = λ i j a b hi hj ma mb.
      (closed.joins i j a b hi hj ma.0 mb.0, axis.of-mixed i j a b ∙ (λ t. i *ℤ ma.1 t +ℤ j *ℤ mb.1 t) ∙ zeros i j);
}
  where
    zeros : (i j : ℤ) → i *ℤ pos 0 +ℤ j *ℤ pos 0 ≡ pos 0
    zeros i j = omega (arith, ints)

-- all three variables
abbrev Zero : (V3 → Type 0) → V3 → Type 0
Zero M = IsGone (IsGone (IsGone M axis_z) axis_y) axis_x

by_rest : (M : V3 → Type 0) (rows list : List V3) → All (Zero M) list → (HasPlane list → HasPlane rows) → HasPlane rows ⊎ M origin
by_rest M rows [] h lift = inl (lift (origin, All-nil (λ r. pos 0 <ℤ dot_product origin r)))
by_rest M rows (r ∷ list) h lift =
    let z = All-head (Zero M) r list h in
    inr (subst M (same_vector r origin z.1 z.0.1 z.0.0.1) z.0.0.0)

-- Gordan's alternative: a plane, or the zero vector among the combinations
pub plane_or_zero : (M : V3 → Type 0) → IsClosed M → (rows : List V3) → All M rows → HasPlane rows ⊎ M origin
plane_or_zero M closed rows h =
    let c2 = gone_closed M axis_z closed in
    let c3 = gone_closed (IsGone M axis_z) axis_y c2 in
    let a = eliminate M axis_z closed rows h in
    let b = eliminate (IsGone M axis_z) axis_y c2 a.list a.members in
    let c = eliminate (IsGone (IsGone M axis_z) axis_y) axis_x c3 b.list b.members in
    by_rest M rows c.list c.members (λ t. a.lifts (b.lifts (c.lifts t)))
