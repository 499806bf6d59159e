-- The faces of a mesh, and the tetrahedra that own them.
use Rattle.std.specs.Prelude.{ℕ, Bool, ◌||◌, List, [], ◌∷◌, map, filter, min, max, slice_index, nat_eq}
use Rattle.std.specs.List.{flat_map, enumerate_from}
use Rattle.std.specs.Ordering.{nat_cmp}
use Rattle.std.specs.declared.cmp.Ordering.{Ordering}
use Rattle.std.specs.Cmp.Lexicographic.{pointwise, slice_cmp}
use Rattle.space3.specs.declared.mesh.Mesh.{Mesh}
use Rattle.space3.specs.declared.lists.Tet.{Tet}
use Rattle.boundary.specs.declared.faces.Face.{Face}

abbrev pub three : ℕ → ℕ → ℕ → List ℕ
three a b c = a ∷ b ∷ c ∷ []

-- the order of lists of nodes: by the first node in which they differ
abbrev pub node_order : List ℕ → List ℕ → Ordering
node_order = slice_cmp nat_cmp

-- the least, the middle and the greatest of three nodes
abbrev pub ascending : List ℕ → List ℕ
ascending turn =
    let a = slice_index turn 0 in
    let b = slice_index turn 1 in
    let c = slice_index turn 2 in
    three (min (min a b) c) (max (min a b) (min (max a b) c)) (max (max a b) c)

-- a turn, begun at its second node
abbrev pub rotated : List ℕ → List ℕ
rotated turn = three (slice_index turn 1) (slice_index turn 2) (slice_index turn 0)

-- one turn is the other rotated
abbrev pub have_same_turn : List ℕ → List ℕ → Bool
have_same_turn t u = pointwise nat_eq t u || pointwise nat_eq (rotated t) u || pointwise nat_eq (rotated (rotated t)) u

-- the four faces of a tetrahedron, each with its nodes in the turn in which they are seen from outside
abbrev pub turns_of : List ℕ → List (List ℕ)
turns_of nodes =
    let n = slice_index nodes in
    three (n 1) (n 2) (n 3) ∷ three (n 0) (n 3) (n 2) ∷ three (n 0) (n 1) (n 3) ∷ three (n 0) (n 2) (n 1) ∷ []

-- a face of a tetrahedron
abbrev pub face_of : ℕ → List ℕ → Face
face_of tet turn = record { corners = ascending turn; turn = turn; tet = tet }

-- the faces of all tetrahedra, in their order; each tetrahedron is numbered by its position
abbrev pub faces_of : List Tet → List Face
faces_of tets = flat_map (λ placed. map (face_of placed.0) (turns_of placed.1.nodes)) (enumerate_from 0 tets)

abbrev pub corners_of : Face → List ℕ
corners_of f = f.corners

abbrev pub has_corners : List ℕ → Face → Bool
has_corners corners f = pointwise nat_eq f.corners corners

-- the faces with these corners, in the mesh's order
abbrev pub faces_at : Mesh → List ℕ → List Face
faces_at mesh corners = filter (has_corners corners) (faces_of mesh.tets)

-- the tetrahedra that have a face with these corners, in the mesh's order
abbrev pub owners_of : Mesh → List ℕ → List ℕ
owners_of mesh corners = map (λ f. f.tet) (faces_at mesh corners)
