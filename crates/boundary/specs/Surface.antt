-- What the surface of a mesh is.
use Rattle.std.specs.Prelude.{ℕ, ◌*◌, ◌≡◌, ◌≤◌, List, [], ◌∷◌, length, slice_index, All}
use Rattle.std.specs.List.{Contains, flat_map}
use Rattle.std.specs.List.Sorted.{IsStrictlySortedBy, IsStrictlyIncreasing}
use Rattle.std.specs.Ordering.{nat_cmp}
use Rattle.space3.specs.declared.mesh.Mesh.{Mesh}
use Rattle.boundary.specs.declared.limits.TheConstants.{TRIANGLE_LIMIT}
use Rattle.boundary.specs.Faces.{node_order, owners_of}
use Rattle.boundary.specs.SortedLists.{IsSortedListOf}

-- positions of vertices, ascending pairs of them as edges, ascending triples as triangles
pub record SurfaceLists : Type 0 where
  pub vertices : List ℕ
  pub edges : List (List ℕ)
  pub triangles : List (List ℕ)

abbrev pub lists_of : List ℕ → List (List ℕ) → List (List ℕ) → SurfaceLists
lists_of vertices edges triangles = record { vertices = vertices; edges = edges; triangles = triangles }

-- a face of exactly one tetrahedron
pub record IsBoundaryFace (mesh : Mesh) (corners : List ℕ) : Type 0 where
  pub once : length (owners_of mesh corners) ≡ 1

-- the ascending pairs of an ascending triple
abbrev pub sides_of : List ℕ → List (List ℕ)
sides_of triangle =
    let n = slice_index triangle in
    (n 0 ∷ n 1 ∷ []) ∷ (n 0 ∷ n 2 ∷ []) ∷ (n 1 ∷ n 2 ∷ []) ∷ []

-- the edges are exactly the sides of the triangles, sorted
abbrev pub AreEdges : List (List ℕ) → List (List ℕ) → Type 0
AreEdges triangles edges = IsSortedListOf node_order (Contains (flat_map sides_of triangles)) edges

-- the vertices are exactly the nodes of the triangles, sorted
abbrev pub AreVertices : List (List ℕ) → List ℕ → Type 0
AreVertices triangles vertices = IsSortedListOf nat_cmp (Contains (flat_map (λ triangle. triangle) triangles)) vertices

-- the triangles are exactly the faces of one tetrahedron, sorted; edges and vertices are theirs
pub record IsSurface (mesh : Mesh) (surface : SurfaceLists) : Type 0 where
  pub triangles : IsSortedListOf node_order (IsBoundaryFace mesh) surface.triangles
  pub edges : AreEdges surface.triangles surface.edges
  pub vertices : AreVertices surface.triangles surface.vertices

-- three different nodes, ascending
pub record IsAscendingTriple (triangle : List ℕ) : Type 0 where
  pub three : length triangle ≡ 3
  pub ascending : IsStrictlyIncreasing triangle

-- what is known of every surface
pub record AreSurfaceLists (surface : SurfaceLists) : Type 0 where
  pub few : length surface.triangles ≤ TRIANGLE_LIMIT
  pub few_edges : length surface.edges ≤ 3 * TRIANGLE_LIMIT
  pub few_vertices : length surface.vertices ≤ 3 * TRIANGLE_LIMIT
  pub each : All IsAscendingTriple surface.triangles
  pub sorted : IsStrictlySortedBy node_order surface.triangles
  pub edges : AreEdges surface.triangles surface.edges
  pub vertices : AreVertices surface.triangles surface.vertices
