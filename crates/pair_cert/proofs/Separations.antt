-- A vector that separates two parts at both ends of an interval is a plane of the ends of their relative moves.
use Rattle.std.proofs.Common.{◌≡◌, ℕ, ◌+◌, ◌^◌, ℤ, pos, ◌+ℤ◌, ◌-ℤ◌, ◌*ℤ◌, ◌<ℤ◌, List, [], ◌∷◌, sym, subst}
use Rattle.std.specs.Prelude.{All, ◌↔◌}
use Rattle.std.proofs.lemmas.List.Elements.{All-nil, All-cons, All-head, All-tail, All-map}
use Rattle.space3.specs.declared.vectors.V3.{V3}
use Rattle.space3.specs.Vectors.{Within, vector, dot_product, difference}
use Rattle.whole_laws.proofs.Ring.{ring, v, ◌⊕◌, ◌⊖◌, ◌⊗◌}
use Rattle.list_laws.proofs.Elements.{All-map_back}
use Rattle.list_laws.proofs.PairsOfElements.{Each, Each-map, Each-map_back, Each-both}
use Rattle.safe_motion.specs.declared.motion.Move.{Move}
use Rattle.safe_motion.specs.Moments.{place_at, places_at}
use Rattle.safe_motion.specs.Certificates.{IsServed}
use Rattle.plane_cut.specs.Planes.{HasPlane, IsPlane}
use Rattle.pair_cert.specs.Calls.Moves.{IsAhead, IsShort, all_ends, moves_within, relative_move, relative_moves, within_interval}
use Rattle.list_laws.proofs.Images.{All-images, All-images_back}

-- ---- ends as rows
pub plane_of_ends : (n : V3) (moves : List Move) → All (IsAhead n) moves → IsPlane n (all_ends moves)
plane_of_ends n [] h = All-nil (λ r. pos 0 <ℤ dot_product n r)
plane_of_ends n (m ∷ ms) h =
    let Past = λ (r : V3). pos 0 <ℤ dot_product n r in
    let here = All-head (IsAhead n) m ms h in
    All-cons Past m.start (m.end ∷ all_ends ms) here.start (All-cons Past m.end (all_ends ms) here.end (plane_of_ends n ms (All-tail (IsAhead n) m ms h)))

ends_of_plane : (n : V3) (moves : List Move) → IsPlane n (all_ends moves) → All (IsAhead n) moves
ends_of_plane n [] h = All-nil (IsAhead n)
ends_of_plane n (m ∷ ms) h =
    let Past = λ (r : V3). pos 0 <ℤ dot_product n r in
    let rest = All-tail Past m.start (m.end ∷ all_ends ms) h in
    All-cons (IsAhead n) m ms (record { start = All-head Past m.start (m.end ∷ all_ends ms) h; end = All-head Past m.end (all_ends ms) rest }) (ends_of_plane n ms (All-tail Past m.end (all_ends ms) rest))

pub rows_within : (moves : List Move) → All IsShort moves → All (Within (2 ^ 29)) (all_ends moves)
rows_within [] h = All-nil (Within (2 ^ 29))
rows_within (m ∷ ms) h =
    let here = All-head IsShort m ms h in
    All-cons (Within (2 ^ 29)) m.start (m.end ∷ all_ends ms) here.start (All-cons (Within (2 ^ 29)) m.end (all_ends ms) here.end (rows_within ms (All-tail IsShort m ms h)))

-- ---- relative moves at a moment
relative-place : (p q : ℕ) (x y : Move) → place_at p q (relative_move x y) ≡ difference (place_at p q x) (place_at p q y)
relative-place p q x y = λ i. vector (each x.start.x y.start.x x.end.x y.end.x i) (each x.start.y y.start.y x.end.y y.end.y i) (each x.start.z y.start.z x.end.z y.end.z i)
  where
    each : (a b c d : ℤ) → (pos q -ℤ pos p) *ℤ (a -ℤ b) +ℤ pos p *ℤ (c -ℤ d) ≡ ((pos q -ℤ pos p) *ℤ a +ℤ pos p *ℤ c) -ℤ ((pos q -ℤ pos p) *ℤ b +ℤ pos p *ℤ d)
    each a b c d =
        ring (pos p ∷ pos q ∷ a ∷ b ∷ c ∷ d ∷ [])
        ((v 1 ⊖ v 0) ⊗ (v 2 ⊖ v 3) ⊕ v 0 ⊗ (v 4 ⊖ v 5))
        (((v 1 ⊖ v 0) ⊗ v 2 ⊕ v 0 ⊗ v 4) ⊖ ((v 1 ⊖ v 0) ⊗ v 3 ⊕ v 0 ⊗ v 5)) tt

-- two points are apart along n at a moment
abbrev Apart : V3 → V3 → V3 → Type 0
Apart n a b = pos 0 <ℤ dot_product n (difference a b)

abbrev AheadWithin : V3 → ℕ → ℕ → Move → Type 0
AheadWithin n j m g = IsAhead n (within_interval j m g)

pub served_plane : (xs ys : List Move) (j m : ℕ) → IsServed xs ys j m ↔ HasPlane (all_ends (moves_within xs ys j m))
served_plane xs ys j m = (
  λ s. (s.normal, plane_of_ends s.normal (moves_within xs ys j m) (ahead s.normal s.serves.before s.serves.after)),
  λ p. let each = ends_of_plane p.0 (moves_within xs ys j m) p.1 in
      record { normal = p.0; serves = record { before = early p.0 each; after = late p.0 each } },
)
  where
    along : (n a b : V3) → a ≡ b → pos 0 <ℤ dot_product n b → pos 0 <ℤ dot_product n a
    along n a b e h = subst (λ (c : V3). pos 0 <ℤ dot_product n c) (sym e) h

    ahead : (n : V3) → Each (Apart n) (places_at j m xs) (places_at j m ys) → Each (Apart n) (places_at (j + 1) m xs) (places_at (j + 1) m ys) → All (IsAhead n) (moves_within xs ys j m)
    ahead n before after =
        All-map (IsAhead n) (within_interval j m) (relative_moves xs ys)
        (All-images (AheadWithin n j m) relative_move xs ys
        (Each-both (λ x y. Apart n (place_at j m x) (place_at j m y)) (λ x y. Apart n (place_at (j + 1) m x) (place_at (j + 1) m y)) (λ x y. AheadWithin n j m (relative_move x y)) xs ys
        (λ x y h k. record { start = along n _ _ (relative-place j m x y) h; end = along n _ _ (relative-place (j + 1) m x y) k })
        (Each-map_back (Apart n) (place_at j m) xs ys before) (Each-map_back (Apart n) (place_at (j + 1) m) xs ys after)))

    each_pair : (n : V3) → All (IsAhead n) (moves_within xs ys j m) → Each (λ x y. AheadWithin n j m (relative_move x y)) xs ys
    each_pair n h = All-images_back (AheadWithin n j m) relative_move xs ys (All-map_back (IsAhead n) (within_interval j m) (relative_moves xs ys) h)

    early : (n : V3) → All (IsAhead n) (moves_within xs ys j m) → Each (Apart n) (places_at j m xs) (places_at j m ys)
    early n h =
        let pairs = each_pair n h in
        Each-map (Apart n) (place_at j m) xs ys (λ k d l i e f. along n _ _ (sym (relative-place j m _ _)) (pairs k d l i e f).start)

    late : (n : V3) → All (IsAhead n) (moves_within xs ys j m) → Each (Apart n) (places_at (j + 1) m xs) (places_at (j + 1) m ys)
    late n h =
        let pairs = each_pair n h in
        Each-map (Apart n) (place_at (j + 1) m) xs ys (λ k d l i e f. along n _ _ (sym (relative-place (j + 1) m _ _)) (pairs k d l i e f).end)
