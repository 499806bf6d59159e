-- The steps of a loop that narrows a cone row by row, and what the last cone says of the rows.
use Rattle.std.proofs.Common.{◌≡◌, ℕ, ◌+◌, ◌<◌, ◌≤◌, ℤ, pos, ◌+ℤ◌, ◌*ℤ◌, neg_ℤ, ◌<ℤ◌, List, [], ◌∷◌, take, length, get_or, refl, sym, ◌∙◌, ap, subst, arith, IsTrue}
use Rattle.std.proofs.lemmas.Int.{ints}
use Rattle.std.specs.Prelude.{◌↔◌, Option, is_some}
use Rattle.std.specs.List.{All}
use Rattle.std.proofs.lemmas.List.Elements.{All-nil, All-more, All-weaker}
use Rattle.space3.specs.declared.vectors.V3.{V3}
use Rattle.space3.specs.Vectors.{dot_product}
use Rattle.list_laws.proofs.Elements.{All-take_less, All-take_at}
use Rattle.whole_laws.proofs.Ring.{ring, v, num, neg, ◌⊕◌, ◌⊖◌, ◌⊗◌}
use Rattle.whole_laws.proofs.Order.{mul_pos_ℤ, add_pos_ℤ, nonneg_of_pos, clean}
use Rattle.std.specs.Prelude.{int_lt, Some, None}
use Rattle.std.proofs.Common.{unsigned_abs, ◌^◌, to_z, of_z, w64, lit<, true, false}
use Rattle.plane_cut.specs.Planes.{IsPlane, HasPlane}
use Rattle.plane_cut.specs.Calls.Elimination.{combined, flattened, ServesFlat, ServesPair, ServesPairs}
use Rattle.plane_cut.specs.declared.cones.Cone.{Cone}
use Rattle.plane_cut.specs.declared.cones.Cone.TheVariants.{Empty}
use Rattle.plane_cut.specs.Calls.Cones.{corners, IsCone, Narrows, NarrowsOrNone}
use Rattle.plane_cut.proofs.Linear.{axis_z}
use Rattle.plane_cut.proofs.Step.{Flat, Agree}
use Rattle.plane_cut.proofs.Elimination.{lifted}
use Rattle.plane_cut.proofs.RaysAndWedges.{cone_plane}

-- the first i rows serve n, each as F says
abbrev pub First : (V3 → V3 → Type 0) → List V3 → ℕ → V3 → Type 0
First F rows i n = All (F n) (take i rows)

pub first_narrows : (start : Cone) (F : V3 → V3 → Type 0) (rows : List V3) → IsCone start → Narrows start (First F rows 0) start
first_narrows start F rows h = record { valid = h; same = λ n. (λ p. (p, All-nil (F n)), λ p. p.0) }

pub narrows_more : (start cone next : Cone) (F : V3 → V3 → Type 0) (G : V3 → Type 0) (rows : List V3) (i : ℕ) (d : V3) → i < length rows →
    Narrows start (First F rows i) cone → Narrows cone G next → ((n : V3) → G n ↔ F n (get_or rows i d)) → Narrows start (First F rows (i + 1)) next
narrows_more start cone next F G rows i d l a b g = record {
  valid = b.valid;
  same = λ n. (
    λ p. let q = (b.same n).0 p in let r = (a.same n).0 q.0 in (r.0, All-more (F n) rows i d l r.1 ((g n).0 q.1)),
    λ p. (b.same n).1 ((a.same n).1 (p.0, All-take_less (F n) rows i (i + 1) (omega arith) p.1), (g n).1 (All-take_at (F n) rows i (i + 1) d (omega arith) (omega arith) p.1)),
  );
}

pub narrows_skip : (start cone : Cone) (F : V3 → V3 → Type 0) (rows : List V3) (i : ℕ) (d : V3) → i < length rows →
    Narrows start (First F rows i) cone → ((n : V3) → F n (get_or rows i d)) → Narrows start (First F rows (i + 1)) cone
narrows_skip start cone F rows i d l a g = record {
  valid = a.valid;
  same = λ n. (
    λ p. let r = (a.same n).0 p in (r.0, All-more (F n) rows i d l r.1 (g n)),
    λ p. (a.same n).1 (p.0, All-take_less (F n) rows i (i + 1) (omega arith) p.1),
  );
}

pub narrows_none : (start cone : Cone) (F : V3 → V3 → Type 0) (G : V3 → Type 0) (rows : List V3) (i m : ℕ) (d : V3) → i < m → m ≤ length rows →
    Narrows start (First F rows i) cone → ¬ ((n : V3) × IsPlane n (corners cone) × G n) → ((n : V3) → G n ↔ F n (get_or rows i d)) → ¬ ((n : V3) × IsPlane n (corners start) × First F rows m n)
narrows_none start cone F G rows i m d l k a none g p =
    none (p.0, (a.same p.0).1 (p.1, All-take_less (F p.0) rows i m (omega arith) p.2), (g p.0).1 (All-take_at (F p.0) rows i m d l k p.2))

-- ---- what a plane of the rows says of the eliminated rows, and back
dot-flattened : (n r : V3) → r.z ≡ pos 0 → dot_product n (flattened r) ≡ dot_product n r
dot-flattened n r e = ap (λ z. n.x *ℤ r.x +ℤ n.y *ℤ r.y +ℤ n.z *ℤ z) (sym e)

pub dot-combined : (n p q : V3) → dot_product n (combined p q) ≡ neg_ℤ q.z *ℤ dot_product n p +ℤ p.z *ℤ dot_product n q
dot-combined n p q =
    ring (n.x ∷ n.y ∷ n.z ∷ p.x ∷ p.y ∷ p.z ∷ q.x ∷ q.y ∷ q.z ∷ [])
    (v 0 ⊗ (v 6 ⊗ v 5 ⊖ v 3 ⊗ v 8) ⊕ v 1 ⊗ (v 7 ⊗ v 5 ⊖ v 4 ⊗ v 8) ⊕ v 2 ⊗ num (pos 0))
    (neg (v 8) ⊗ (v 0 ⊗ v 3 ⊕ v 1 ⊗ v 4 ⊕ v 2 ⊗ v 5) ⊕ v 5 ⊗ (v 0 ⊗ v 6 ⊕ v 1 ⊗ v 7 ⊕ v 2 ⊗ v 8)) tt

abbrev ServesAll : V3 → List V3 → Type 0
ServesAll n rows = All (ServesFlat n) rows × All (ServesPairs n rows) rows

above : (z : ℤ) → z <ℤ pos 0 → pos 0 <ℤ neg_ℤ z
above z h = omega (arith, ints)

plane_serves : (n : V3) (rows : List V3) → IsPlane n rows → ServesAll n rows
plane_serves n rows h =
    let P : V3 → Type 0 = λ r. pos 0 <ℤ dot_product n r in (
      All-weaker P (ServesFlat n) (λ r k e. rw (dot-flattened n r e) k) rows h,
      All-weaker P (ServesPairs n rows)
          (λ p kp hp. All-weaker P (ServesPair n p) (λ q kq hq. rw (dot-combined n p q)
          (add_pos_ℤ (neg_ℤ q.z *ℤ dot_product n p) (p.z *ℤ dot_product n q) (nonneg_of_pos (neg_ℤ q.z *ℤ dot_product n p) (mul_pos_ℤ (neg_ℤ q.z) (dot_product n p) (above q.z hq) kp)) (mul_pos_ℤ p.z (dot_product n q) hp kq))) rows h)
          rows h,
    )

served_plane : (n : V3) (rows : List V3) → ServesAll n rows → HasPlane rows
served_plane n rows h =
    lifted axis_z n rows
    (All-weaker (ServesFlat n) (Flat (dot_product n) axis_z.of) (λ r k. record { flat = λ e. subst (λ (z : ℤ). pos 0 <ℤ z) (dot-flattened n r e) (k e) }) rows h.0)
    (All-weaker (ServesPairs n rows) (λ p. All (Agree (dot_product n) axis_z.of p) rows) (λ p k. joins p k) rows h.1)
  where
    pair : (p q : V3) → pos 0 <ℤ p.z → ServesPair n p q → Agree (dot_product n) axis_z.of p q
    pair p q hp k = record { agree = λ _ b. subst (λ (z : ℤ). pos 0 <ℤ z) (dot-combined n p q) (k b) }

    joins : (p : V3) → ServesPairs n rows p → All (Agree (dot_product n) axis_z.of p) rows
    joins p k i d l = record { agree = λ a b. (pair p (get_or rows i d) a (k a i d l)).agree a b }

pub none_at_first : (rows : List V3) → ¬ ((n : V3) × IsPlane n (corners Empty) × All (ServesFlat n) rows) → ¬ (HasPlane rows)
none_at_first rows none p = none (p.0, All-nil (λ r. pos 0 <ℤ dot_product p.0 r), (plane_serves p.0 rows p.1).0)

pub none_at_last : (rows : List V3) (cone : Cone) → Narrows Empty (λ n. All (ServesFlat n) rows) cone → ¬ ((n : V3) × IsPlane n (corners cone) × All (ServesPairs n rows) rows) → ¬ (HasPlane rows)
none_at_last rows cone a none p =
    let s = plane_serves p.0 rows p.1 in
    none (p.0, (a.same p.0).1 (All-nil (λ r. pos 0 <ℤ dot_product p.0 r), s.0), s.1)

pub plane_at_last : (rows : List V3) (cone last : Cone) → Narrows Empty (λ n. All (ServesFlat n) rows) cone → Narrows cone (λ n. All (ServesPairs n rows) rows) last → HasPlane rows
plane_at_last rows cone last a b =
    let t = cone_plane last b.valid in
    let q = (b.same t.0).0 t.1 in
    served_plane t.0 rows (((a.same t.0).0 q.0).1, q.1)

-- ---- one row of each loop
pub pair_serves : (p q r : V3) → q.z <ℤ pos 0 → r ≡ combined p q → (n : V3) → (pos 0 <ℤ dot_product n r) ↔ ServesPair n p q
pair_serves p q r h e n = (λ g _. subst (λ (s : V3). pos 0 <ℤ dot_product n s) e g, λ f. subst (λ (s : V3). pos 0 <ℤ dot_product n s) (sym e) (f h))

pub flat_serves : (q r : V3) → q.z ≡ pos 0 → r ≡ flattened q → (n : V3) → (pos 0 <ℤ dot_product n r) ↔ ServesFlat n q
flat_serves q r h e n = (λ g _. subst (λ (s : V3). pos 0 <ℤ dot_product n s) e g, λ f. subst (λ (s : V3). pos 0 <ℤ dot_product n s) (sym e) (f h))

pub pairs_serve : (p : V3) (rows : List V3) → pos 0 <ℤ p.z → (n : V3) → All (ServesPair n p) rows ↔ ServesPairs n rows p
pairs_serve p rows h n = (λ g _. g, λ f. f h)

-- ---- tests of a component
pub test_below : (z : ℤ) → unsigned_abs z ≤ 2 ^ 29 → int_lt (to_z w64 (of_z w64 z)) (pos 0) ≡ true → z <ℤ pos 0
test_below z h e = omega (arith, ints, clean w64 z (2 ^ 29) h (lit< tt))

pub test_not_below : (z : ℤ) → unsigned_abs z ≤ 2 ^ 29 → int_lt (to_z w64 (of_z w64 z)) (pos 0) ≡ false → z <ℤ pos 0 → ⊥
test_not_below z h e l = omega (arith, ints, clean w64 z (2 ^ 29) h (lit< tt))

pub test_above : (z : ℤ) → unsigned_abs z ≤ 2 ^ 29 → int_lt (pos 0) (to_z w64 (of_z w64 z)) ≡ true → pos 0 <ℤ z
test_above z h e = omega (arith, ints, clean w64 z (2 ^ 29) h (lit< tt))

pub test_not_above : (z : ℤ) → unsigned_abs z ≤ 2 ^ 29 → int_lt (pos 0) (to_z w64 (of_z w64 z)) ≡ false → pos 0 <ℤ z → ⊥
test_not_above z h e l = omega (arith, ints, clean w64 z (2 ^ 29) h (lit< tt))

pub test_zero : (z : ℤ) → unsigned_abs z ≤ 2 ^ 29 → of_z w64 z ≡ 0 → z ≡ pos 0
test_zero z h e = sym (clean w64 z (2 ^ 29) h (lit< tt)) ∙ ap (to_z w64) e

pub test_not_zero : (z : ℤ) → ¬ (of_z w64 z ≡ 0) → ¬ (z ≡ pos 0)
test_not_zero z h e = h (ap (of_z w64) e)

-- ---- the answer
pub decides_plane : (rows : List V3) (cone : Cone) (result : Option Cone) → Narrows Empty (λ n. All (ServesFlat n) rows) cone → NarrowsOrNone cone (λ n. All (ServesPairs n rows) rows) result → IsTrue (is_some result) ↔ HasPlane rows
decides_plane rows cone (Some last) a b = (λ _. plane_at_last rows cone last a b, λ _. refl)
decides_plane rows cone None a b = (λ t. cc, λ p. absurd (none_at_last rows cone a b p))
