-- How far apart points of close parts are, and when parts are close.
use Rattle.std.proofs.Common.{◌≡◌, ℕ, ◌≤◌, ℤ, pos, ◌-ℤ◌, ◌≤ℤ◌, List, [], ◌∷◌, map, get_or, unsigned_abs, arith, Bool, true, refl}
use Rattle.std.proofs.lemmas.Int.{ints}
use Rattle.std.proofs.lemmas.Bool.{and_parts}
use Rattle.std.proofs.lemmas.List.Elements.{All-map}
use Rattle.std.specs.Prelude.{All, IsTrue, int_le, ◌&&◌}
use Rattle.std.specs.Int.{int_max}
use Rattle.space3.specs.declared.vectors.V3.{V3}
use Rattle.space3.specs.declared.boxes.BoundingBox.{BoundingBox}
use Rattle.space3.specs.Vectors.{Within, AtMost, difference}
use Rattle.space3.specs.Boxes.{least_of, greatest_of, box_of, are_within}
use Rattle.space3.proofs.BoxLemmas.{gap_closes, gap_parts, least-has, greatest-has}
use Rattle.nearest.specs.declared.limits.TheConstants.{EDGE_LIMIT, GAP_LIMIT, APART_LIMIT}
use Rattle.nearest.specs.Close.{HasShortEdges, AreClose}

-- a is near the ends of its box, b near those of its own, and the boxes have a small gap
apart_by : (a b al ag bl bg : ℤ) → unsigned_abs (a -ℤ al) ≤ 65536 → unsigned_abs (a -ℤ ag) ≤ 65536 → unsigned_abs (b -ℤ bl) ≤ 65536 → unsigned_abs (b -ℤ bg) ≤ 65536 →
    (bl -ℤ ag) ≤ℤ pos 1024 → (al -ℤ bg) ≤ℤ pos 1024 → unsigned_abs (a -ℤ b) ≤ 132096
apart_by a b al ag bl bg h k l m f g = omega (arith, ints)

-- the gap along an axis, from the ends of both boxes
abbrev along_axis : ℕ → ℤ → ℤ → ℤ → ℤ → Bool
along_axis reach al ag bl bg = int_le (int_max (pos 0) (int_max (bl -ℤ ag) (al -ℤ bg))) (pos reach)

abbrev near : ℤ → ℤ → Type 0
near c r = AtMost EDGE_LIMIT (c -ℤ r)

-- along an axis, where this is how far a is from each point of its part, and b from each of its own
along : (axis : V3 → ℤ) (a b p q : V3) (xs ys : List V3) → All (λ r. AtMost EDGE_LIMIT (axis a -ℤ axis r)) (p ∷ xs) → All (λ r. AtMost EDGE_LIMIT (axis b -ℤ axis r)) (q ∷ ys) →
    (let f = map axis (p ∷ xs) in let g = map axis (q ∷ ys) in ((least_of g -ℤ greatest_of f) ≤ℤ pos GAP_LIMIT) × ((least_of f -ℤ greatest_of g) ≤ℤ pos GAP_LIMIT)) → AtMost APART_LIMIT (axis a -ℤ axis b)
along axis a b p q xs ys h k gap = record {
  bound = apart_by (axis a) (axis b) (least_of (map axis (p ∷ xs))) (greatest_of (map axis (p ∷ xs))) (least_of (map axis (q ∷ ys))) (greatest_of (map axis (q ∷ ys)))
      (least-has (near (axis a)) (axis p) (map axis xs) left).bound (greatest-has (near (axis a)) (axis p) (map axis xs) left).bound
      (least-has (near (axis b)) (axis q) (map axis ys) right).bound (greatest-has (near (axis b)) (axis q) (map axis ys) right).bound gap.0 gap.1;
}
  where
    left : All (near (axis a)) (map axis (p ∷ xs))
    left = All-map (near (axis a)) axis (p ∷ xs) h

    right : All (near (axis b)) (map axis (q ∷ ys))
    right = All-map (near (axis b)) axis (q ∷ ys) k

apart_in : (p q : V3) (xs ys : List V3) → AreClose (p ∷ xs) (q ∷ ys) → All (λ a. All (λ b. Within APART_LIMIT (difference a b)) (q ∷ ys)) (p ∷ xs)
apart_in p q xs ys c i a hi j b hj =
    let f = get_or (p ∷ xs) i a in
    let g = get_or (q ∷ ys) j b in
    let outer = and_parts _ _ c.gap in
    let inner = and_parts _ _ outer.0 in record {
      x = along (λ r. r.x) f g p q xs ys (λ k r hk. (c.left i a hi k r hk).x) (λ k r hk. (c.right j b hj k r hk).x) (gaps (λ r. r.x) inner.0);
      y = along (λ r. r.y) f g p q xs ys (λ k r hk. (c.left i a hi k r hk).y) (λ k r hk. (c.right j b hj k r hk).y) (gaps (λ r. r.y) inner.1);
      z = along (λ r. r.z) f g p q xs ys (λ k r hk. (c.left i a hi k r hk).z) (λ k r hk. (c.right j b hj k r hk).z) (gaps (λ r. r.z) outer.1);
    }
  where
    gaps : (axis : V3 → ℤ) → (let al = map axis (p ∷ xs) in let bl = map axis (q ∷ ys) in along_axis GAP_LIMIT (least_of al) (greatest_of al) (least_of bl) (greatest_of bl) ≡ true) →
        (let f = map axis (p ∷ xs) in let g = map axis (q ∷ ys) in ((least_of g -ℤ greatest_of f) ≤ℤ pos GAP_LIMIT) × ((least_of f -ℤ greatest_of g) ≤ℤ pos GAP_LIMIT))
    gaps axis e = let f = map axis (p ∷ xs) in let g = map axis (q ∷ ys) in gap_parts GAP_LIMIT (least_of f) (greatest_of f) (least_of g) (greatest_of g) e

pub apart : (xs ys : List V3) → AreClose xs ys → All (λ a. All (λ b. Within APART_LIMIT (difference a b)) ys) xs
apart [] ys c = λ i a hi. absurd (omega arith)
apart (p ∷ xs) [] c = λ i a hi j b hj. absurd (omega arith)
apart (p ∷ xs) (q ∷ ys) c = apart_in p q xs ys c

-- boxes within a smaller reach
pub within_more : (m n : ℕ) (a b : BoundingBox) → m ≤ n → IsTrue (are_within m a b) → IsTrue (are_within n a b)
within_more m n a b h t =
    let outer = and_parts _ _ t in
    let inner = and_parts _ _ outer.0 in
    all_true (more a.least.x a.greatest.x b.least.x b.greatest.x inner.0) (more a.least.y a.greatest.y b.least.y b.greatest.y inner.1) (more a.least.z a.greatest.z b.least.z b.greatest.z outer.1)
  where
    wider : (g : ℤ) → g ≤ℤ pos m → g ≤ℤ pos n
    wider g k = omega (arith, ints)

    more : (al ag bl bg : ℤ) → along_axis m al ag bl bg ≡ true → along_axis n al ag bl bg ≡ true
    more al ag bl bg e = let k = gap_parts m al ag bl bg e in gap_closes n al ag bl bg (wider _ k.0) (wider _ k.1)

    all_true : {a b c : Bool} → a ≡ true → b ≡ true → c ≡ true → (a && b && c) ≡ true
    all_true e f g = rw (e, f, g) refl

pub close_by : (reach : ℕ) (xs ys : List V3) → reach ≤ GAP_LIMIT → HasShortEdges xs → HasShortEdges ys → IsTrue (are_within reach (box_of xs) (box_of ys)) → AreClose xs ys
close_by reach xs ys h left right t = record { left = left; right = right; gap = within_more reach GAP_LIMIT (box_of xs) (box_of ys) h t }
