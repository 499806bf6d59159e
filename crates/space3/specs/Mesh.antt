-- What a mesh is, and the rest determinant of its tetrahedra.
use Rattle.std.specs.Prelude.{ℕ, ◌≡◌, ◌<◌, ◌≤◌, ℤ, List, length, All, slice_index, slice_index_or, ◌==◌}
use Rattle.std.specs.List.{IsDistinct}
use Rattle.std.specs.Prelude.{unsigned_abs}
use Rattle.space3.specs.declared.vectors.V3.{V3}
use Rattle.space3.specs.declared.lists.Tet.{Tet}
use Rattle.space3.specs.declared.mesh.Mesh.{Mesh}
use Rattle.space3.specs.declared.mesh.TheConstants.{NODE_LIMIT, TET_LIMIT, TAG_LIMIT, NUMBER_LIMIT}
use Rattle.space3.specs.Vectors.{origin, difference, determinant}

-- the place of a node, by its position in the list
abbrev pub place_of : List V3 → ℕ → V3
place_of places node = slice_index_or places node origin

-- the three edges from a tetrahedron's first node, multiplied: six times its signed volume
abbrev pub rest_determinant : List V3 → List ℕ → ℤ
rest_determinant places nodes =
    let corner = λ (k : ℕ). place_of places (slice_index nodes k) in
    determinant (difference (corner 1) (corner 0)) (difference (corner 2) (corner 0)) (difference (corner 3) (corner 0))

-- each of these nodes has a place
abbrev pub HasNodes : List V3 → List ℕ → Type 0
HasNodes places nodes = All (λ node. node < length places) nodes

-- a number of a node or of an element
pub record IsNumber (n : ℕ) : Type 0 where
  pub low : 1 ≤ n
  pub high : n ≤ NUMBER_LIMIT

-- four different nodes of so many, a number, and not too many tags
pub record IsSoundTet (nodes : ℕ) (tet : Tet) : Type 0 where
  pub number : IsNumber tet.number
  pub four : length tet.nodes ≡ 4
  pub different : IsDistinct (λ i j. i == j) tet.nodes
  pub there : All (λ node. node < nodes) tet.nodes
  pub few_tags : length tet.tags ≤ TAG_LIMIT
  pub tags : All (λ tag. unsigned_abs tag ≤ NUMBER_LIMIT) tet.tags

-- a mesh as the program takes it
pub record IsSound (mesh : Mesh) : Type 0 where
  pub placed : length mesh.numbers ≡ length mesh.places
  pub some_nodes : 1 ≤ length mesh.numbers
  pub few_nodes : length mesh.numbers ≤ NODE_LIMIT
  pub numbered : All IsNumber mesh.numbers
  pub different : IsDistinct (λ m n. m == n) mesh.numbers
  pub some_tets : 1 ≤ length mesh.tets
  pub few_tets : length mesh.tets ≤ TET_LIMIT
  pub tets : All (IsSoundTet (length mesh.numbers)) mesh.tets
