-- Pairs of which some node isn't fixed are found among those whose first part is near the box of all such parts.
use Rattle.std.proofs.Common.{◌≡◌, ◌∙◌, ℕ, zero, suc, ◌<◌, ℤ, pos, ◌+ℤ◌, ◌≤ℤ◌, ◌-ℤ◌, Bool, true, false, ◌&&◌, cond, List, [], ◌∷◌, map, length, get_or, refl, ap, sym, subst, arith}
use Rattle.std.specs.Prelude.{All, Option, Some, None, not, if◌then◌else◌}
use Rattle.std.specs.Int.{int_min, int_max}
use Rattle.std.specs.List.{filter, flat_map, fold}
use Rattle.std.specs.Ordering.{int_eq}
use Rattle.std.proofs.lemmas.Bool.{and_parts}
use Rattle.std.proofs.lemmas.Bool.Decides.{Decides-int_eq}
use Rattle.std.proofs.lemmas.Int.{ints, clamps}
use Rattle.std.proofs.lemmas.List.Elements.{All-filter, All-head, All-tail}
use Rattle.space3.specs.declared.boxes.BoundingBox.{BoundingBox}
use Rattle.space3.specs.declared.vectors.V3.{V3}
use Rattle.space3.specs.Vectors.{vector}
use Rattle.space3.specs.Boxes.{are_within, box_around, greatest_of, least_of}
use Rattle.space3.specs.Mesh.{place_of}
use Rattle.space3.proofs.BoxLemmas.{gap_closes, gap_parts, gap_within}
use Rattle.boundary.specs.declared.pairs.Pair.{Pair}
use Rattle.boundary.specs.declared.pairs.PairKind.{PairKind}
use Rattle.boundary.specs.declared.pairs.PairKind.TheVariants.{VE, VT, EE, ET}
use Rattle.boundary.specs.Pairs.{IsPair, first_parts, kinds, pairs_of, pairs_of_kind, part_pair, second_parts}
use Rattle.boundary.specs.Surface.{SurfaceLists}
use Rattle.boundary.proofs.PairOrder.{pairs_sorted}
use Rattle.broad_grid.specs.Held.{are_held, is_loose, loose_close_pairs_of}
use Rattle.broad_grid.specs.Moving.{is_same, moving_pairs_of, still_nodes}
use Rattle.broad_grid.specs.NearPairs.{are_boxes_within, boxes_touch, is_close, is_of_close_kind, swept_pairs_of}
use Rattle.broad_grid.specs.PartBoxes.{part_box, swept_box}
use Rattle.broad_grid.specs.Calls.LooseBox.{grown, grown_by, loose_box, with_box}
use Rattle.broad_grid.specs.Calls.Rows.{is_near_loose}
use Rattle.broad_grid.specs.Calls.Walk.{wanted_pairs_of}
use Rattle.broad_grid.proofs.RowsOfPairs.{close_as_near, filter-filter, stays}

-- ---- places that are the same
pub same_place : (p q : V3) → is_same p q ≡ true → p ≡ q
same_place p q e =
    let first = and_parts (int_eq p.x q.x && int_eq p.y q.y) (int_eq p.z q.z) e in
    let both = and_parts (int_eq p.x q.x) (int_eq p.y q.y) first.0 in
    λ i. vector ((Decides-int_eq p.x q.x).0 both.0 i) ((Decides-int_eq p.y q.y).0 both.1 i) ((Decides-int_eq p.z q.z).0 first.1 i)

-- ---- a box in another
record IsInside (b a : BoundingBox) : Type 0 where
  least_x : a.least.x ≤ℤ b.least.x
  least_y : a.least.y ≤ℤ b.least.y
  least_z : a.least.z ≤ℤ b.least.z
  greatest_x : b.greatest.x ≤ℤ a.greatest.x
  greatest_y : b.greatest.y ≤ℤ a.greatest.y
  greatest_z : b.greatest.z ≤ℤ a.greatest.z

inside_itself : (a : BoundingBox) → IsInside a a
inside_itself a = record { least_x = omega (arith, ints); least_y = omega (arith, ints); least_z = omega (arith, ints); greatest_x = omega (arith, ints); greatest_y = omega (arith, ints); greatest_z = omega (arith, ints) }

min_first : (a b c : ℤ) → a ≤ℤ c → int_min a b ≤ℤ c
min_first a b c h = omega (arith, ints, clamps)

max_first : (a b c : ℤ) → c ≤ℤ a → c ≤ℤ int_max a b
max_first a b c h = omega (arith, ints, clamps)

min_second : (a b : ℤ) → int_min a b ≤ℤ b
min_second a b = omega (arith, ints, clamps)

max_second : (a b : ℤ) → b ≤ℤ int_max a b
max_second a b = omega (arith, ints, clamps)

inside_first : (b a c : BoundingBox) → IsInside b a → IsInside b (box_around a c)
inside_first b a c h = record {
  least_x = min_first a.least.x c.least.x b.least.x h.least_x;
  least_y = min_first a.least.y c.least.y b.least.y h.least_y;
  least_z = min_first a.least.z c.least.z b.least.z h.least_z;
  greatest_x = max_first a.greatest.x c.greatest.x b.greatest.x h.greatest_x;
  greatest_y = max_first a.greatest.y c.greatest.y b.greatest.y h.greatest_y;
  greatest_z = max_first a.greatest.z c.greatest.z b.greatest.z h.greatest_z;
}

inside_second : (a c : BoundingBox) → IsInside c (box_around a c)
inside_second a c = record {
  least_x = min_second a.least.x c.least.x;
  least_y = min_second a.least.y c.least.y;
  least_z = min_second a.least.z c.least.z;
  greatest_x = max_second a.greatest.x c.greatest.x;
  greatest_y = max_second a.greatest.y c.greatest.y;
  greatest_z = max_second a.greatest.z c.greatest.z;
}

-- boxes within a reach of each other, along each axis
record AreNear (reach : ℕ) (a b : BoundingBox) : Type 0 where
  below_x : b.least.x ≤ℤ (a.greatest.x +ℤ pos reach)
  below_y : b.least.y ≤ℤ (a.greatest.y +ℤ pos reach)
  below_z : b.least.z ≤ℤ (a.greatest.z +ℤ pos reach)
  above_x : a.least.x ≤ℤ (b.greatest.x +ℤ pos reach)
  above_y : a.least.y ≤ℤ (b.greatest.y +ℤ pos reach)
  above_z : a.least.z ≤ℤ (b.greatest.z +ℤ pos reach)

told_near : (reach : ℕ) (a b : BoundingBox) → are_within reach a b ≡ true → AreNear reach a b
told_near reach a b e =
    let outer = and_parts _ _ e in
    let inner = and_parts _ _ outer.0 in
    let x = gap_parts reach a.least.x a.greatest.x b.least.x b.greatest.x inner.0 in
    let y = gap_parts reach a.least.y a.greatest.y b.least.y b.greatest.y inner.1 in
    let z = gap_parts reach a.least.z a.greatest.z b.least.z b.greatest.z outer.1 in
    record {
      below_x = past b.least.x a.greatest.x x.0;
      below_y = past b.least.y a.greatest.y y.0;
      below_z = past b.least.z a.greatest.z z.0;
      above_x = past a.least.x b.greatest.x x.1;
      above_y = past a.least.y b.greatest.y y.1;
      above_z = past a.least.z b.greatest.z z.1;
    }
  where
    past : (m n : ℤ) → (m -ℤ n) ≤ℤ pos reach → m ≤ℤ (n +ℤ pos reach)
    past m n h = omega (arith, ints)

are_near : (reach : ℕ) (a b : BoundingBox) → AreNear reach a b → are_within reach a b ≡ true
are_near reach a b h = all_true (along a.least.x a.greatest.x b.least.x b.greatest.x h.below_x h.above_x) (along a.least.y a.greatest.y b.least.y b.greatest.y h.below_y h.above_y) (along a.least.z a.greatest.z b.least.z b.greatest.z h.below_z h.above_z)
  where
    along : (l g m h : ℤ) → m ≤ℤ (g +ℤ pos reach) → l ≤ℤ (h +ℤ pos reach) → gap_within reach l g m h ≡ true
    along l g m h below above = gap_closes reach l g m h (omega (arith, ints)) (omega (arith, ints))

    all_true : {a b c : Bool} → a ≡ true → b ≡ true → c ≡ true → (a && b && c) ≡ true
    all_true e f g = rw (e, f, g) refl

-- what is near a box is near one around it
near_around : (reach : ℕ) (a b c : BoundingBox) → IsInside b a → are_within reach c b ≡ true → are_within reach a c ≡ true
near_around reach a b c h e =
    let t = told_near reach c b e in
    are_near reach a c (record {
      below_x = wider c.least.x b.greatest.x a.greatest.x t.above_x h.greatest_x;
      below_y = wider c.least.y b.greatest.y a.greatest.y t.above_y h.greatest_y;
      below_z = wider c.least.z b.greatest.z a.greatest.z t.above_z h.greatest_z;
      above_x = lower a.least.x b.least.x c.greatest.x h.least_x t.below_x;
      above_y = lower a.least.y b.least.y c.greatest.y h.least_y t.below_y;
      above_z = lower a.least.z b.least.z c.greatest.z h.least_z t.below_z;
    })
  where
    wider : (l m n : ℤ) → l ≤ℤ (m +ℤ pos reach) → m ≤ℤ n → l ≤ℤ (n +ℤ pos reach)
    wider l m n h k = omega (arith, ints)

    lower : (l m n : ℤ) → l ≤ℤ m → m ≤ℤ (n +ℤ pos reach) → l ≤ℤ (n +ℤ pos reach)
    lower l m n h k = omega (arith, ints)

-- ---- the box of a part is near itself
picks_in_order : (xs : List ℤ) (a b : ℤ) → a ≤ℤ b → fold int_min a xs ≤ℤ fold int_max b xs
picks_in_order [] a b h = h
picks_in_order (x ∷ xs) a b h = picks_in_order xs (int_min a x) (int_max b x) (omega (arith, ints, clamps))

in_order : (xs : List ℤ) → least_of xs ≤ℤ greatest_of xs
in_order [] = omega (arith, ints)
in_order (x ∷ xs) = picks_in_order xs x x (omega (arith, ints))

part_near_itself : (reach : ℕ) (x0 x1 : List V3) (nodes : List ℕ) → are_within reach (swept_box x0 x1 nodes) (swept_box x0 x1 nodes) ≡ true
part_near_itself reach x0 x1 nodes =
    let box = swept_box x0 x1 nodes in
    are_near reach box box (record { below_x = along (λ p. p.x); below_y = along (λ p. p.y); below_z = along (λ p. p.z); above_x = along (λ p. p.x); above_y = along (λ p. p.y); above_z = along (λ p. p.z) })
  where
    along : (axis : V3 → ℤ) → int_min (least_of (map axis (map (place_of x0) nodes))) (least_of (map axis (map (place_of x1) nodes))) ≤ℤ (int_max (greatest_of (map axis (map (place_of x0) nodes))) (greatest_of (map axis (map (place_of x1) nodes))) +ℤ pos reach)
    along axis =
        first (least_of (map axis (map (place_of x0) nodes))) (greatest_of (map axis (map (place_of x0) nodes))) (least_of (map axis (map (place_of x1) nodes))) (greatest_of (map axis (map (place_of x1) nodes))) (in_order (map axis (map (place_of x0) nodes)))
      where
        first : (a b c d : ℤ) → a ≤ℤ b → int_min a c ≤ℤ (int_max b d +ℤ pos reach)
        first a b c d h = omega (arith, ints, clamps)

-- ---- the box of what isn't fixed
-- a box, if there is one, is around another
abbrev Holds : Option BoundingBox → BoundingBox → Type 0
Holds None b = ⊥
Holds (Some a) b = IsInside b a

module _ (x0 x1 : List V3) (fixed : List Bool) where
  holds_more : (others : Option BoundingBox) (nodes : List ℕ) (b : BoundingBox) → Holds others b → Holds (grown_by x0 x1 fixed others nodes) b
  holds_more others nodes b h = one (are_held fixed nodes) others h
    where
      one : (t : Bool) (others : Option BoundingBox) → Holds others b → Holds (if t then others else Some (with_box others (swept_box x0 x1 nodes))) b
      one true others h = h
      one false None h = absurd h
      one false (Some a) h = inside_first b a (swept_box x0 x1 nodes) h

  holds_still : (parts : List (List ℕ)) (others : Option BoundingBox) (b : BoundingBox) → Holds others b → Holds (grown x0 x1 fixed others parts) b
  holds_still [] others b h = h
  holds_still (p ∷ ps) others b h = holds_still ps (grown_by x0 x1 fixed others p) b (holds_more others p b h)

  holds_new : (others : Option BoundingBox) (nodes : List ℕ) → are_held fixed nodes ≡ false → Holds (grown_by x0 x1 fixed others nodes) (swept_box x0 x1 nodes)
  holds_new others nodes e = one (are_held fixed nodes) others e
    where
      one : (t : Bool) (others : Option BoundingBox) → t ≡ false → Holds (if t then others else Some (with_box others (swept_box x0 x1 nodes))) (swept_box x0 x1 nodes)
      one true others e = cc
      one false None e = inside_itself (swept_box x0 x1 nodes)
      one false (Some a) e = inside_second a (swept_box x0 x1 nodes)

  holds_each : (parts : List (List ℕ)) (others : Option BoundingBox) (k : ℕ) → k < length parts → are_held fixed (get_or parts k []) ≡ false → Holds (grown x0 x1 fixed others parts) (swept_box x0 x1 (get_or parts k []))
  holds_each [] others k l e = absurd (omega (arith, l))
  holds_each (p ∷ ps) others zero l e = holds_still ps (grown_by x0 x1 fixed others p) (swept_box x0 x1 p) (holds_new others p e)
  holds_each (p ∷ ps) others (suc k) l e = holds_each ps (grown_by x0 x1 fixed others p) k (omega (arith, l)) e

  module _ (s : SurfaceLists) where
    holds_vertex : (k : ℕ) → k < length (map (λ (vertex : ℕ). vertex ∷ []) s.vertices) → are_held fixed (get_or (map (λ (vertex : ℕ). vertex ∷ []) s.vertices) k []) ≡ false
        → Holds (loose_box s x0 x1 fixed) (swept_box x0 x1 (get_or (map (λ (vertex : ℕ). vertex ∷ []) s.vertices) k []))
    holds_vertex k l e = holds_still s.triangles _ _ (holds_still s.edges _ _ (holds_each (map (λ (vertex : ℕ). vertex ∷ []) s.vertices) None k l e))

    holds_edge : (k : ℕ) → k < length s.edges → are_held fixed (get_or s.edges k []) ≡ false → Holds (loose_box s x0 x1 fixed) (swept_box x0 x1 (get_or s.edges k []))
    holds_edge k l e = holds_still s.triangles _ _ (holds_each s.edges _ k l e)

    holds_triangle : (k : ℕ) → k < length s.triangles → are_held fixed (get_or s.triangles k []) ≡ false → Holds (loose_box s x0 x1 fixed) (swept_box x0 x1 (get_or s.triangles k []))
    holds_triangle k l e = holds_each s.triangles _ k l e

    holds_first : (kind : PairKind) (k : ℕ) → k < length (first_parts s kind) → are_held fixed (get_or (first_parts s kind) k []) ≡ false → Holds (loose_box s x0 x1 fixed) (swept_box x0 x1 (get_or (first_parts s kind) k []))
    holds_first VE = holds_vertex
    holds_first VT = holds_vertex
    holds_first EE = holds_edge
    holds_first ET = holds_edge

    holds_second : (kind : PairKind) (k : ℕ) → k < length (second_parts s kind) → are_held fixed (get_or (second_parts s kind) k []) ≡ false → Holds (loose_box s x0 x1 fixed) (swept_box x0 x1 (get_or (second_parts s kind) k []))
    holds_second VE = holds_edge
    holds_second VT = holds_triangle
    holds_second EE = holds_edge
    holds_second ET = holds_triangle

    -- the first part of a near pair of which some node isn't fixed is near it
    near_all : (reach : ℕ) (loose : Option BoundingBox) (b c : BoundingBox) → Holds loose b → are_within reach c b ≡ true → is_near_loose reach loose c ≡ true
    near_all reach None b c h e = absurd h
    near_all reach (Some a) b c h e = near_around reach a b c h e

    first_is_near : (reach : ℕ) (p : Pair) → IsPair s p → is_loose fixed s p ≡ true → are_boxes_within reach s x0 x1 p ≡ true → is_near_loose reach (loose_box s x0 x1 fixed) (swept_box x0 x1 (part_pair s p).left) ≡ true
    first_is_near reach p pair loose near = one (are_held fixed (part_pair s p).left) (are_held fixed (part_pair s p).right) refl refl loose
      where
        one : (a b : Bool) → are_held fixed (part_pair s p).left ≡ a → are_held fixed (part_pair s p).right ≡ b → not (a && b) ≡ true → is_near_loose reach (loose_box s x0 x1 fixed) (swept_box x0 x1 (part_pair s p).left) ≡ true
        one true true e f h = cc
        one true false e f h = near_all reach (loose_box s x0 x1 fixed) (swept_box x0 x1 (part_pair s p).right) (swept_box x0 x1 (part_pair s p).left) (holds_second p.kind p.b pair.second f) near
        one false b e f h = near_all reach (loose_box s x0 x1 fixed) (swept_box x0 x1 (part_pair s p).left) (swept_box x0 x1 (part_pair s p).left) (holds_first p.kind p.a pair.first e) (part_near_itself reach x0 x1 (part_pair s p).left)

-- ---- filters
same_filter : {A : Type 0} (p q : A → Bool) (xs : List A) → All (λ x. p x ≡ q x) xs → filter p xs ≡ filter q xs
same_filter p q [] h = refl
same_filter {A = A} p q (x ∷ xs) h = λ i. cond (All-head (λ y. p y ≡ q y) x xs h i) (x ∷ same_filter p q xs (All-tail (λ y. p y ≡ q y) x xs h) i) (same_filter p q xs (All-tail (λ y. p y ≡ q y) x xs h) i)

-- a test of all that pass two others passes those that pass another too
kept : (a b c : Bool) → (a ≡ true → c ≡ true → b ≡ true) → (a && (b && c)) ≡ (a && c)
kept true b true h = rw (h refl refl) refl
kept true true false h = refl
kept true false false h = refl
kept false b c h = refl

enough : (loose wanted near : Pair → Bool) (pairs : List Pair) → All (λ p. loose p ≡ true → near p ≡ true → wanted p ≡ true) pairs → filter loose (filter (λ p. wanted p && near p) pairs) ≡ filter loose (filter near pairs)
enough loose wanted near pairs h =
    filter-filter loose (λ p. wanted p && near p) pairs
    ∙ same_filter (λ p. loose p && (wanted p && near p)) (λ p. loose p && near p) pairs (λ k d l. kept (loose (get_or pairs k d)) (wanted (get_or pairs k d)) (near (get_or pairs k d)) (h k d l))
    ∙ sym (filter-filter loose near pairs)

-- ---- pairs that touch in a motion
pub wanted_are_pairs : (loose : Option BoundingBox) (s : SurfaceLists) (x0 x1 : List V3) (pairs : List Pair) → pairs ≡ wanted_pairs_of loose 0 s x0 x1 kinds → All (IsPair s) pairs
wanted_are_pairs loose s x0 x1 pairs e =
    subst (All (IsPair s)) (sym e) (All-filter (λ p. is_near_loose 0 loose (swept_box x0 x1 (part_pair s p).left) && boxes_touch s x0 x1 p) (IsPair s) (pairs_of s) (pairs_sorted s).each)

-- the pairs whose boxes touch are of the pair order
pub swept_are_pairs : (s : SurfaceLists) (x0 x1 : List V3) (pairs : List Pair) → pairs ≡ swept_pairs_of s x0 x1 → All (IsPair s) pairs
swept_are_pairs s x0 x1 pairs e = wanted_are_pairs None s x0 x1 pairs e

-- those of which some node moves
pub enough_are_wanted : (s : SurfaceLists) (x0 x1 : List V3) (still : List Bool) (loose : Option BoundingBox) (pairs : List Pair) → still ≡ still_nodes x0 x1 → loose ≡ loose_box s x0 x1 still → pairs ≡ wanted_pairs_of loose 0 s x0 x1 kinds →
    filter (is_loose still s) pairs ≡ moving_pairs_of s x0 x1
enough_are_wanted s x0 x1 still loose pairs flags is found =
    ap (filter (is_loose still s)) found
    ∙ enough (is_loose still s) (λ p. is_near_loose 0 loose (swept_box x0 x1 (part_pair s p).left)) (boxes_touch s x0 x1) (pairs_of s)
    (λ k d l e f. ap (λ (m : Option BoundingBox). is_near_loose 0 m (swept_box x0 x1 (part_pair s (get_or (pairs_of s) k d)).left)) is ∙ first_is_near x0 x1 still s 0 (get_or (pairs_of s) k d) ((pairs_sorted s).each k d l) e f)
    ∙ (λ i. filter (is_loose (flags i) s) (swept_pairs_of s x0 x1))

-- ---- close pairs
-- those that are wanted are a filter of the close ones
close_wanted : (loose : Option BoundingBox) (reach : ℕ) (s : SurfaceLists) (x : List V3) → wanted_pairs_of loose reach s x x (VT ∷ EE ∷ []) ≡ filter (λ p. is_near_loose reach loose (swept_box x x (part_pair s p).left) && is_close reach s x p) (pairs_of s)
close_wanted loose reach s x =
    let wanted : Pair → Bool = λ p. is_near_loose reach loose (swept_box x x (part_pair s p).left) in
    sym (filter-filter wanted (are_boxes_within reach s x x) (flat_map (pairs_of_kind s) (VT ∷ EE ∷ []))) ∙ ap (filter wanted) (close_as_near reach s x) ∙ filter-filter wanted (is_close reach s x) (pairs_of s)

pub close_wanted_are_pairs : (loose : Option BoundingBox) (reach : ℕ) (s : SurfaceLists) (x : List V3) (pairs : List Pair) → pairs ≡ wanted_pairs_of loose reach s x x (VT ∷ EE ∷ []) → All (IsPair s) pairs
close_wanted_are_pairs loose reach s x pairs e =
    subst (All (IsPair s)) (sym (e ∙ close_wanted loose reach s x)) (All-filter (λ p. is_near_loose reach loose (swept_box x x (part_pair s p).left) && is_close reach s x p) (IsPair s) (pairs_of s) (pairs_sorted s).each)

-- those of which some node isn't fixed
pub enough_are_close : (s : SurfaceLists) (x : List V3) (fixed : List Bool) (reach : ℕ) (loose : Option BoundingBox) (pairs : List Pair) → loose ≡ loose_box s x x fixed → pairs ≡ wanted_pairs_of loose reach s x x (VT ∷ EE ∷ []) →
    filter (is_loose fixed s) pairs ≡ loose_close_pairs_of fixed reach s x
enough_are_close s x fixed reach loose pairs is found =
    ap (filter (is_loose fixed s)) (found ∙ close_wanted loose reach s x)
    ∙ enough (is_loose fixed s) (λ p. is_near_loose reach loose (swept_box x x (part_pair s p).left)) (is_close reach s x) (pairs_of s)
    (λ k d l e f. let p = get_or (pairs_of s) k d in
    ap (λ (m : Option BoundingBox). is_near_loose reach m (swept_box x x (part_pair s p).left)) is
    ∙ first_is_near x x fixed s reach p ((pairs_sorted s).each k d l) e (stays reach x (part_pair s p).left (part_pair s p).right ∙ (and_parts (is_of_close_kind p.kind) (are_within reach (part_box x (part_pair s p).left) (part_box x (part_pair s p).right)) f).1))
