-- All that are close are among the near pairs that are kept, while no place is far from its kept one.
use Rattle.std.proofs.Common.{◌≡◌, ◌∙◌, ℕ, zero, suc, ◌+◌, ◌*◌, ◌≤◌, ℤ, pos, ◌+ℤ◌, ◌-ℤ◌, ◌≤ℤ◌, Bool, true, false, ◌&&◌, cond, List, [], ◌∷◌, map, length, ap, refl, subst, sym, arith, unsigned_abs}
use Rattle.std.specs.Prelude.{All, nat_le}
use Rattle.std.specs.List.{filter, fold}
use Rattle.std.specs.Int.{int_min, int_max}
use Rattle.std.proofs.lemmas.Bool.{and_parts}
use Rattle.std.proofs.lemmas.Int.{ints, clamps}
use Rattle.std.proofs.lemmas.List.Elements.{All-filter}
use Rattle.space3.specs.declared.vectors.V3.{V3}
use Rattle.space3.specs.Boxes.{are_within, greatest_of, least_of}
use Rattle.space3.specs.Mesh.{place_of}
use Rattle.space3.proofs.BoxLemmas.{gap_closes, gap_parts, gap_within}
use Rattle.boundary.specs.declared.pairs.Pair.{Pair}
use Rattle.boundary.specs.Pairs.{IsPair, pairs_of, part_pair}
use Rattle.boundary.specs.Surface.{SurfaceLists}
use Rattle.boundary.proofs.PairOrder.{pairs_sorted}
use Rattle.broad_grid.specs.Held.{is_loose, loose_close_pairs_of}
use Rattle.broad_grid.specs.Kept.{IsWhole, KeptPairs, differ_by_at_most, has_stayed, have_stayed}
use Rattle.broad_grid.specs.NearPairs.{close_pairs_of, is_close, is_of_close_kind}
use Rattle.broad_grid.specs.PartBoxes.{part_box}

-- ---- places that have stayed
-- a place of one list and that at the same position of the other
stayed_at : (margin : ℕ) (kept x : List V3) → length x ≡ length kept → have_stayed margin kept x ≡ true → (node : ℕ) → has_stayed margin (place_of kept node) (place_of x node) ≡ true
stayed_at margin [] [] e h node = let none : nat_le 0 margin ≡ true = grind arith in rw none refl
stayed_at margin [] (q ∷ qs) e h node = absurd (omega arith)
stayed_at margin (p ∷ ps) [] e h node = absurd (omega arith)
stayed_at margin (p ∷ ps) (q ∷ qs) e h zero = (and_parts _ _ h).0
stayed_at margin (p ∷ ps) (q ∷ qs) e h (suc node) = stayed_at margin ps qs (omega arith) (and_parts _ _ h).1 node

-- two numbers that differ by at most the margin
record AreBy (margin : ℕ) (a b : ℤ) : Type 0 where
  below : a ≤ℤ (b +ℤ pos margin)
  above : b ≤ℤ (a +ℤ pos margin)

by : (margin : ℕ) (a b : ℤ) → differ_by_at_most margin a b ≡ true → AreBy margin a b
by margin a b e = let h = said (unsigned_abs (a -ℤ b)) margin e in record { below = omega (arith, ints); above = omega (arith, ints) }
  where
    said : (m n : ℕ) → nat_le m n ≡ true → m ≤ n
    said m n e = grind arith

-- ---- least and greatest numbers
-- what is picked of numbers that differ by little differs by little
picked_below : (margin : ℕ) (pick : ℤ → ℤ → ℤ) → ((a b c d : ℤ) → a ≤ℤ (b +ℤ pos margin) → c ≤ℤ (d +ℤ pos margin) → pick a c ≤ℤ (pick b d +ℤ pos margin)) →
    (axis : V3 → ℤ) (p q : ℕ → V3) → ((n : ℕ) → axis (p n) ≤ℤ (axis (q n) +ℤ pos margin)) → (nodes : List ℕ) (a b : ℤ) → a ≤ℤ (b +ℤ pos margin) →
    fold pick a (map axis (map p nodes)) ≤ℤ (fold pick b (map axis (map q nodes)) +ℤ pos margin)
picked_below margin pick one axis p q each [] a b h = h
picked_below margin pick one axis p q each (n ∷ nodes) a b h =
    picked_below margin pick one axis p q each nodes (pick a (axis (p n))) (pick b (axis (q n))) (one a b (axis (p n)) (axis (q n)) h (each n))

least_below : (margin : ℕ) (axis : V3 → ℤ) (p q : ℕ → V3) → ((n : ℕ) → axis (p n) ≤ℤ (axis (q n) +ℤ pos margin)) → (nodes : List ℕ) →
    least_of (map axis (map p nodes)) ≤ℤ (least_of (map axis (map q nodes)) +ℤ pos margin)
least_below margin axis p q each [] = omega (arith, ints)
least_below margin axis p q each (n ∷ nodes) = picked_below margin int_min one axis p q each nodes (axis (p n)) (axis (q n)) (each n)
  where
    one : (a b c d : ℤ) → a ≤ℤ (b +ℤ pos margin) → c ≤ℤ (d +ℤ pos margin) → int_min a c ≤ℤ (int_min b d +ℤ pos margin)
    one a b c d h k = omega (arith, ints, clamps)

greatest_below : (margin : ℕ) (axis : V3 → ℤ) (p q : ℕ → V3) → ((n : ℕ) → axis (p n) ≤ℤ (axis (q n) +ℤ pos margin)) → (nodes : List ℕ) →
    greatest_of (map axis (map p nodes)) ≤ℤ (greatest_of (map axis (map q nodes)) +ℤ pos margin)
greatest_below margin axis p q each [] = omega (arith, ints)
greatest_below margin axis p q each (n ∷ nodes) = picked_below margin int_max one axis p q each nodes (axis (p n)) (axis (q n)) (each n)
  where
    one : (a b c d : ℤ) → a ≤ℤ (b +ℤ pos margin) → c ≤ℤ (d +ℤ pos margin) → int_max a c ≤ℤ (int_max b d +ℤ pos margin)
    one a b c d h k = omega (arith, ints, clamps)

-- ---- boxes
-- the least and the greatest of a part's numbers along an axis
abbrev least_along : (V3 → ℤ) → List V3 → List ℕ → ℤ
least_along axis places nodes = least_of (map axis (map (place_of places) nodes))

abbrev greatest_along : (V3 → ℤ) → List V3 → List ℕ → ℤ
greatest_along axis places nodes = greatest_of (map axis (map (place_of places) nodes))

-- the gap along an axis of two parts
abbrev near_along : (V3 → ℤ) → ℕ → List V3 → List ℕ → List ℕ → Bool
near_along axis reach places left right =
    gap_within reach (least_along axis places left) (greatest_along axis places left) (least_along axis places right) (greatest_along axis places right)

-- a gap at places that have stayed was less than twice the margin more
gap_before : (axis : V3 → ℤ) (reach margin : ℕ) (kept x : List V3) (left right : List ℕ) → ((n : ℕ) → AreBy margin (axis (place_of kept n)) (axis (place_of x n))) →
    near_along axis reach x left right ≡ true → near_along axis (reach + 2 * margin) kept left right ≡ true
gap_before axis reach margin kept x left right each e =
    let gaps = gap_parts reach (least_along axis x left) (greatest_along axis x left) (least_along axis x right) (greatest_along axis x right) e in
    gap_closes (reach + 2 * margin) (least_along axis kept left) (greatest_along axis kept left) (least_along axis kept right) (greatest_along axis kept right)
    (wider (least_along axis kept right) (least_along axis x right) (greatest_along axis kept left) (greatest_along axis x left) (least right) (greatest left) gaps.0)
    (wider (least_along axis kept left) (least_along axis x left) (greatest_along axis kept right) (greatest_along axis x right) (least left) (greatest right) gaps.1)
  where
    least : (nodes : List ℕ) → least_along axis kept nodes ≤ℤ (least_along axis x nodes +ℤ pos margin)
    least nodes = least_below margin axis (place_of kept) (place_of x) (λ n. (each n).below) nodes

    greatest : (nodes : List ℕ) → greatest_along axis x nodes ≤ℤ (greatest_along axis kept nodes +ℤ pos margin)
    greatest nodes = greatest_below margin axis (place_of x) (place_of kept) (λ n. (each n).above) nodes

    wider : (l m g h : ℤ) → l ≤ℤ (m +ℤ pos margin) → h ≤ℤ (g +ℤ pos margin) → (m -ℤ h) ≤ℤ pos reach → (l -ℤ g) ≤ℤ pos (reach + 2 * margin)
    wider l m g h b c d = omega (arith, ints)

boxes_before : (reach margin : ℕ) (kept x : List V3) (left right : List ℕ) → length x ≡ length kept → have_stayed margin kept x ≡ true →
    are_within reach (part_box x left) (part_box x right) ≡ true → are_within (reach + 2 * margin) (part_box kept left) (part_box kept right) ≡ true
boxes_before reach margin kept x left right same stayed e =
    let outer = and_parts _ _ e in
    let inner = and_parts _ _ outer.0 in
    all_true
    (gap_before (λ p. p.x) reach margin kept x left right (λ n. by margin (place_of kept n).x (place_of x n).x (parts n).0) inner.0)
    (gap_before (λ p. p.y) reach margin kept x left right (λ n. by margin (place_of kept n).y (place_of x n).y (parts n).1) inner.1)
    (gap_before (λ p. p.z) reach margin kept x left right (λ n. by margin (place_of kept n).z (place_of x n).z (parts n).2) outer.1)
  where
    parts : (n : ℕ) → (differ_by_at_most margin (place_of kept n).x (place_of x n).x ≡ true) × (differ_by_at_most margin (place_of kept n).y (place_of x n).y ≡ true) × (differ_by_at_most margin (place_of kept n).z (place_of x n).z ≡ true)
    parts n =
        let outer = and_parts _ _ (stayed_at margin kept x same stayed n) in
        let inner = and_parts _ _ outer.0 in (inner.0, inner.1, outer.1)

    all_true : {a b c : Bool} → a ≡ true → b ≡ true → c ≡ true → (a && b && c) ≡ true
    all_true e f g = rw (e, f, g) refl

-- ---- pairs
-- a pair that is close was near at the kept places
near_before : (reach margin : ℕ) (s : SurfaceLists) (kept x : List V3) → length x ≡ length kept → have_stayed margin kept x ≡ true → (p : Pair) → is_close reach s x p ≡ true → is_close (reach + 2 * margin) s kept p ≡ true
near_before reach margin s kept x same stayed p e =
    let left = (part_pair s p).left in
    let right = (part_pair s p).right in
    let both = and_parts (is_of_close_kind p.kind) (are_within reach (part_box x left) (part_box x right)) e in
    rw (both.0, boxes_before reach margin kept x left right same stayed both.1) refl

-- a weaker test first changes nothing
weaker_first : {A : Type 0} (p q : A → Bool) → ((x : A) → p x ≡ true → q x ≡ true) → (xs : List A) → filter p (filter q xs) ≡ filter p xs
weaker_first p q weaker [] = refl
weaker_first {A = A} p q weaker (x ∷ xs) = one (weaker_first p q weaker xs) (p x) (q x) refl refl
  where
    one : filter p (filter q xs) ≡ filter p xs → (b c : Bool) → p x ≡ b → q x ≡ c → filter p (cond c (x ∷ filter q xs) (filter q xs)) ≡ cond (p x) (x ∷ filter p xs) (filter p xs)
    one rest b true e f = ap (λ (l : List A). cond (p x) (x ∷ l) l) rest
    one rest true false e f = let g = weaker x e in cc
    one rest false false e f = rw (e, rest) refl

-- a test may come first or last
swapped : {A : Type 0} (p q : A → Bool) (xs : List A) → filter p (filter q xs) ≡ filter q (filter p xs)
swapped p q [] = refl
swapped {A = A} p q (x ∷ xs) = one (swapped p q xs) (p x) (q x) refl refl
  where
    one : filter p (filter q xs) ≡ filter q (filter p xs) → (b c : Bool) → p x ≡ b → q x ≡ c → filter p (cond (q x) (x ∷ filter q xs) (filter q xs)) ≡ filter q (cond (p x) (x ∷ filter p xs) (filter p xs))
    one rest true true e f = rw (e, f) (rw e (ap (λ (l : List A). x ∷ l) rest))
    one rest true false e f = rw (e, f) rest
    one rest false true e f = rw (e, f) (rw e rest)
    one rest false false e f = rw (e, f) rest

pub all_among_kept : (s : SurfaceLists) (kept : KeptPairs) (x : List V3) → length x ≡ length kept.places → have_stayed kept.margin kept.places x ≡ true → IsWhole s kept →
    filter (is_close kept.reach s x) kept.pairs ≡ loose_close_pairs_of kept.fixed kept.reach s x
all_among_kept s kept x same stayed whole =
    let close = is_close kept.reach s x in
    let near = is_close (kept.reach + 2 * kept.margin) s kept.places in
    ap (filter close) whole.pairs ∙ swapped close (is_loose kept.fixed s) (filter near (pairs_of s))
    ∙ ap (filter (is_loose kept.fixed s)) (weaker_first close near (near_before kept.reach kept.margin s kept.places x same stayed) (pairs_of s))

-- what is kept are pairs of the surface
pub kept_are_pairs : (s : SurfaceLists) (kept : KeptPairs) → IsWhole s kept → All (IsPair s) kept.pairs
kept_are_pairs s kept whole =
    let near = is_close (kept.reach + 2 * kept.margin) s kept.places in
    subst (All (IsPair s)) (sym whole.pairs) (All-filter (is_loose kept.fixed s) (IsPair s) (filter near (pairs_of s)) (All-filter near (IsPair s) (pairs_of s) (pairs_sorted s).each))

-- close ones are
pub close_are_pairs : (s : SurfaceLists) (reach : ℕ) (x : List V3) (found : List Pair) → found ≡ close_pairs_of reach s x → All (IsPair s) found
close_are_pairs s reach x found e = subst (All (IsPair s)) (sym e) (All-filter (is_close reach s x) (IsPair s) (pairs_of s) (pairs_sorted s).each)
