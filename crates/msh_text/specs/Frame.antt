-- The text of a frame.
use Rattle.std.specs.Prelude.{ℕ, List, [], ◌∷◌, ◌++◌, map, length, codes, decimal, slice_index}
use Rattle.std.specs.List.{zip, flat_map, join_with_byte}
use Rattle.std.specs.Fmt.{signed_decimal}
use Rattle.dec_text.specs.GridText.{grid_decimal}
use Rattle.space3.specs.declared.vectors.V3.{V3}
use Rattle.space3.specs.declared.lists.Tet.{Tet}
use Rattle.space3.specs.declared.mesh.Mesh.{Mesh}
use Rattle.mesh_words.specs.Rows.{Row}

-- a node's number and its three coordinates, as the shortest decimals on the grid of so many digits
abbrev pub node_row : ℕ → ℕ × V3 → Row
node_row digits node =
    decimal node.0 ∷ grid_decimal node.1.x digits ∷ grid_decimal node.1.y digits ∷ grid_decimal node.1.z digits ∷ []

-- a tetrahedron's number, its type, how many tags, the tags, and its nodes' numbers
abbrev pub tet_row : List ℕ → Tet → Row
tet_row numbers tet =
    decimal tet.number ∷ codes "4" ∷ decimal (length tet.tags)
    ∷ map signed_decimal tet.tags ++ map (λ node. decimal (slice_index numbers node)) tet.nodes

abbrev pub head_rows : List Row
head_rows =
    (codes "$MeshFormat" ∷ []) ∷ (codes "2.2" ∷ codes "0" ∷ codes "8" ∷ []) ∷ (codes "$EndMeshFormat" ∷ []) ∷ []

abbrev pub node_rows : ℕ → List ℕ → List V3 → List Row
node_rows digits numbers places =
    (codes "$Nodes" ∷ []) ∷ (decimal (length numbers) ∷ []) ∷ map (node_row digits) (zip numbers places) ++ (codes "$EndNodes" ∷ []) ∷ []

abbrev pub tet_rows : List ℕ → List Tet → List Row
tet_rows numbers tets =
    (codes "$Elements" ∷ []) ∷ (decimal (length tets) ∷ []) ∷ map (tet_row numbers) tets ++ (codes "$EndElements" ∷ []) ∷ []

-- the rows of the frame of a mesh whose nodes are at these places, on the grid of so many digits
abbrev pub frame_rows : Mesh → List V3 → ℕ → List Row
frame_rows mesh places digits = head_rows ++ (node_rows digits mesh.numbers places ++ tet_rows mesh.numbers mesh.tets)

-- the fields parted by one space, and a line feed
abbrev pub line_of : Row → List ℕ
line_of row = join_with_byte 32 row ++ codes "\n"

-- each field after a space
abbrev pub spaced : List (List ℕ) → List ℕ
spaced fields = flat_map (λ field. 32 ∷ field) fields

unfoldable pub frame_text : Mesh → List V3 → ℕ → List ℕ
frame_text mesh places digits = flat_map line_of (frame_rows mesh places digits)

-- a mesh whose nodes are at these places
abbrev pub placed_at : Mesh → List V3 → Mesh
placed_at mesh places = record { numbers = mesh.numbers; places = places; tets = mesh.tets }
