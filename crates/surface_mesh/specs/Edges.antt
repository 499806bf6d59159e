-- The edges of a tetrahedron, and how long they are.
use Rattle.std.specs.Prelude.{ℕ, ◌&&◌, Bool, List, [], ◌∷◌, map, nat_le, slice_index, unsigned_abs}
use Rattle.std.specs.List.{list_all}
use Rattle.space3.specs.declared.vectors.V3.{V3}
use Rattle.space3.specs.Vectors.{difference}
use Rattle.space3.specs.Mesh.{place_of}

-- the six edges, each by its two corners
abbrev pub corner_pairs : List (ℕ × ℕ)
corner_pairs = (0, 1) ∷ (0, 2) ∷ (0, 3) ∷ (1, 2) ∷ (1, 3) ∷ (2, 3) ∷ []

-- the six edges of a tetrahedron of these nodes, as vectors
abbrev pub edges_of : List V3 → List ℕ → List V3
edges_of places nodes =
    let corner = λ (k : ℕ). place_of places (slice_index nodes k) in
    map (λ e. difference (corner e.1) (corner e.0)) corner_pairs

-- each component is at most so much in absolute value
abbrev pub is_within : ℕ → V3 → Bool
is_within most v =
    nat_le (unsigned_abs v.x) most && nat_le (unsigned_abs v.y) most && nat_le (unsigned_abs v.z) most

-- each component of each of the six edges is
abbrev pub has_edges_within : ℕ → List V3 → List ℕ → Bool
has_edges_within most places nodes = list_all (is_within most) (edges_of places nodes)
