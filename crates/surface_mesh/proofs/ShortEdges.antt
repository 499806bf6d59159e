-- What short edges give.
use Rattle.std.proofs.Common.{ℕ, ◌&&◌, ◌≡◌, ◌≤◌, ℤ, ◌-ℤ◌, List, [], ◌∷◌, length, map, slice_index, lit<, arith}
use Rattle.std.specs.List.{Contains}
use Rattle.std.proofs.lemmas.Int.{ints}
use Rattle.std.proofs.lemmas.Bool.{leb-true, and_parts}
use Rattle.std.specs.Prelude.{All, IsTrue, unsigned_abs, nat_le}
use Rattle.space3.specs.declared.vectors.V3.{V3}
use Rattle.space3.specs.Vectors.{Within, difference, origin}
use Rattle.space3.specs.Mesh.{place_of}
use Rattle.space3.proofs.Bounds.{within-turned}
use Rattle.surface_mesh.specs.Edges.{edges_of, has_edges_within, is_within}
use Rattle.std.proofs.lemmas.List.Elements.{All-contains, All-from_recursion, All-map, All-weaker}
use Rattle.list_laws.proofs.Membership.{Contains-map}
use Rattle.list_laws.proofs.Searches.{all_pass}

-- the test of a vector says that it is within
pub within : (most : ℕ) (v : V3) → IsTrue (is_within most v) → Within most v
within most v h =
    let xyz = and_parts (nat_le (unsigned_abs v.x) most && nat_le (unsigned_abs v.y) most) (nat_le (unsigned_abs v.z) most) h in
    let xy = and_parts (nat_le (unsigned_abs v.x) most) (nat_le (unsigned_abs v.y) most) xyz.0 in
    record { x = record { bound = leb-true _ _ xy.0 }; y = record { bound = leb-true _ _ xy.1 }; z = record { bound = leb-true _ _ xyz.1 } }

-- each of the six edges is within
pub edges_are_within : (most : ℕ) (places : List V3) (nodes : List ℕ) → IsTrue (has_edges_within most places nodes) → All (Within most) (edges_of places nodes)
edges_are_within most places nodes h = all_pass (is_within most) (Within most) (within most) (edges_of places nodes) h

-- the edge from the first corner to another
abbrev pub edge_to : ℕ → List V3 → List ℕ → V3
edge_to k places nodes = difference (place_of places (slice_index nodes k)) (place_of places (slice_index nodes 0))

pub first_edge_is_within : (most : ℕ) (places : List V3) (nodes : List ℕ) → IsTrue (has_edges_within most places nodes) → Within most (edge_to 1 places nodes)
first_edge_is_within most places nodes h = edges_are_within most places nodes h 0 origin (lit< tt)

pub second_edge_is_within : (most : ℕ) (places : List V3) (nodes : List ℕ) → IsTrue (has_edges_within most places nodes) → Within most (edge_to 2 places nodes)
second_edge_is_within most places nodes h = edges_are_within most places nodes h 1 origin (lit< tt)

pub third_edge_is_within : (most : ℕ) (places : List V3) (nodes : List ℕ) → IsTrue (has_edges_within most places nodes) → Within most (edge_to 3 places nodes)
third_edge_is_within most places nodes h = edges_are_within most places nodes h 2 origin (lit< tt)

-- ---- all corners
-- each point is within so much of each
abbrev pub AreNear : ℕ → List V3 → Type 0
AreNear most points = All (λ a. All (λ b. Within most (difference a b)) points) points

itself : (most : ℕ) (a : V3) → Within most (difference a a)
itself most a = record { x = record { bound = none a.x most }; y = record { bound = none a.y most }; z = record { bound = none a.z most } }
  where
    none : (m : ℤ) (most : ℕ) → unsigned_abs (m -ℤ m) ≤ most
    none m most = omega (arith, ints)

four_near : (most : ℕ) (p q r s : V3) → Within most (difference q p) → Within most (difference r p) → Within most (difference s p) → Within most (difference r q) → Within most (difference s q) → Within most (difference s r) →
    AreNear most (p ∷ q ∷ r ∷ s ∷ [])
four_near most p q r s qp rp sp rq sq sr =
    All-from_recursion (λ a. All (λ b. Within most (difference a b)) (p ∷ q ∷ r ∷ s ∷ [])) (p ∷ q ∷ r ∷ s ∷ []) (
      row p (itself most p) (within-turned most q p qp) (within-turned most r p rp) (within-turned most s p sp),
      (
        row q qp (itself most q) (within-turned most r q rq) (within-turned most s q sq),
        (
          row r rp rq (itself most r) (within-turned most s r sr),
          (row s sp sq sr (itself most s), tt),
        ),
      ),
    )
  where
    row : (a : V3) → Within most (difference a p) → Within most (difference a q) → Within most (difference a r) → Within most (difference a s) → All (λ b. Within most (difference a b)) (p ∷ q ∷ r ∷ s ∷ [])
    row a h k l m = All-from_recursion (λ b. Within most (difference a b)) (p ∷ q ∷ r ∷ s ∷ []) (h, (k, (l, (m, tt))))

-- each corner of a tetrahedron with short edges is within so much of each
pub corners_are_near : (most : ℕ) (places : List V3) (nodes : List ℕ) → length nodes ≡ 4 → IsTrue (has_edges_within most places nodes) → AreNear most (map (place_of places) nodes)
corners_are_near most places [] four h = absurd (omega arith)
corners_are_near most places (a ∷ []) four h = absurd (omega arith)
corners_are_near most places (a ∷ b ∷ []) four h = absurd (omega arith)
corners_are_near most places (a ∷ b ∷ c ∷ []) four h = absurd (omega arith)
corners_are_near most places (a ∷ b ∷ c ∷ d ∷ []) four h =
    let edge = edges_are_within most places (a ∷ b ∷ c ∷ d ∷ []) h in
    four_near most (place_of places a) (place_of places b) (place_of places c) (place_of places d)
    (edge 0 origin (lit< tt)) (edge 1 origin (lit< tt)) (edge 2 origin (lit< tt)) (edge 3 origin (lit< tt)) (edge 4 origin (lit< tt)) (edge 5 origin (lit< tt))
corners_are_near most places (a ∷ b ∷ c ∷ d ∷ e ∷ nodes) four h = absurd (omega arith)

-- so are the places of some of its nodes
pub some_are_near : (most : ℕ) (places : List V3) (nodes part : List ℕ) → All (Contains nodes) part → AreNear most (map (place_of places) nodes) → AreNear most (map (place_of places) part)
some_are_near most places nodes part inside h =
    let place : ℕ → V3 = place_of places in
    All-map (λ a. All (λ b. Within most (difference a b)) (map place part)) place part
    (All-weaker (Contains nodes) (λ a. All (λ b. Within most (difference (place a) b)) (map place part))
    (λ a i.
    let near : All (λ b. Within most (difference (place a) b)) (map place nodes) = All-contains (λ c. All (λ b. Within most (difference c b)) (map place nodes)) (map place nodes) (place a) h (Contains-map place nodes a i) in
    All-map (λ b. Within most (difference (place a) b)) place part
    (All-weaker (Contains nodes) (λ b. Within most (difference (place a) (place b)))
    (λ b j. All-contains (λ c. Within most (difference (place a) c)) (map place nodes) (place b) near (Contains-map place nodes b j)) part inside))
    part inside)
