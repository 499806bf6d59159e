-- The lines of a frame, from the pieces that are written.
use Rattle.std.proofs.Common.{◌≡◌, ℕ, zero, suc, ◌+◌, ◌≤◌, List, [], ◌∷◌, ◌++◌, length, take, Some, slice_get, sym, ◌∙◌, ap, append_assoc, arith}
use Rattle.std.specs.Prelude.{map, decimal, codes, slice_index}
use Rattle.std.specs.List.{flat_map, zip, join_with_byte}
use Rattle.std.specs.Fmt.{signed_decimal}
use Rattle.std.proofs.lemmas.List.{append-nil, map-append, flat_map_more, take_all}
use Rattle.std.proofs.lemmas.Slice.Zip.{length-zip}
use Rattle.std.proofs.lemmas.Grind.{flat_map-append}
use Rattle.dec_text.specs.GridText.{grid_decimal}
use Rattle.space3.specs.declared.vectors.V3.{V3}
use Rattle.space3.specs.declared.lists.Tet.{Tet}
use Rattle.mesh_words.specs.Rows.{Row}
use Rattle.space3.specs.declared.mesh.Mesh.{Mesh}
use Rattle.msh_text.specs.Frame.{line_of, node_row, tet_row, tet_rows, spaced, frame_text}

-- fields joined by spaces are the first one, and each further one after a space
join-spaced : (x : List ℕ) (xs : Row) → join_with_byte 32 (x ∷ xs) ≡ x ++ spaced xs
join-spaced x [] = sym (append-nil x)
join-spaced x (y ∷ ys) = ap (λ (t : List ℕ). x ++ (32 ∷ t)) (join-spaced y ys)

pub line_of-cons : (x : List ℕ) (xs : Row) → line_of (x ∷ xs) ≡ (x ++ spaced xs) ++ codes "\n"
line_of-cons x xs = ap (λ (t : List ℕ). t ++ codes "\n") (join-spaced x xs)

regroup_4 : (o n x y z : List ℕ) → ((((o ++ n) ++ x) ++ y) ++ z) ++ codes "\n" ≡ o ++ ((n ++ (x ++ (y ++ (z ++ [])))) ++ codes "\n")
regroup_4 o n x y z = simp (append-nil, append_assoc)

-- what was written of a node is its line
pub node_line : (o o1 o2 o3 o4 o5 : List ℕ) (digits number : ℕ) (place : V3) → o1 ≡ o ++ decimal number → o2 ≡ o1 ++ (32 ∷ grid_decimal place.x digits) → o3 ≡ o2 ++ (32 ∷ grid_decimal place.y digits)
    → o4 ≡ o3 ++ (32 ∷ grid_decimal place.z digits) → o5 ≡ o4 ++ codes "\n" → o5 ≡ o ++ line_of (node_row digits (number, place))
node_line o o1 o2 o3 o4 o5 digits number place e1 e2 e3 e4 e5 =
    let n = decimal number in
    let x = 32 ∷ grid_decimal place.x digits in
    let y = 32 ∷ grid_decimal place.y digits in
    let z = 32 ∷ grid_decimal place.z digits in
    let parts : o5 ≡ ((((o ++ n) ++ x) ++ y) ++ z) ++ codes "\n" = cc in
    parts ∙ regroup_4 o n x y z ∙ sym (ap (λ (t : List ℕ). o ++ t) (line_of-cons n (grid_decimal place.x digits ∷ grid_decimal place.y digits ∷ grid_decimal place.z digits ∷ [])))

regroup_6 : (o n f c t k : List ℕ) → (((((o ++ n) ++ f) ++ c) ++ t) ++ k) ++ codes "\n" ≡ o ++ ((n ++ (f ++ (c ++ (t ++ k)))) ++ codes "\n")
regroup_6 o n f c t k = simp append_assoc

-- what was written of a tetrahedron is its line
pub tet_line : (o o1 o2 o3 o4 o5 o6 : List ℕ) (numbers : List ℕ) (tet : Tet) → o1 ≡ o ++ decimal tet.number → o2 ≡ o1 ++ codes " 4" → o3 ≡ o2 ++ (32 ∷ decimal (length tet.tags))
    → o4 ≡ o3 ++ spaced (map signed_decimal tet.tags) → o5 ≡ o4 ++ spaced (map (λ node. decimal (slice_index numbers node)) tet.nodes) → o6 ≡ o5 ++ codes "\n" → o6 ≡ o ++ line_of (tet_row numbers tet)
tet_line o o1 o2 o3 o4 o5 o6 numbers tet e1 e2 e3 e4 e5 e6 =
    let n = decimal tet.number in
    let f = codes " 4" in
    let c = 32 ∷ decimal (length tet.tags) in
    let ts = map signed_decimal tet.tags in
    let ks = map (λ node. decimal (slice_index numbers node)) tet.nodes in
    let parts : o6 ≡ (((((o ++ n) ++ f) ++ c) ++ spaced ts) ++ spaced ks) ++ codes "\n" = cc in
    let both : spaced (ts ++ ks) ≡ spaced ts ++ spaced ks = flat_map-append (λ (field : List ℕ). 32 ∷ field) ts ks in
    parts ∙ regroup_6 o n f c (spaced ts) (spaced ks)
    ∙ ap (λ (t : List ℕ). o ++ ((n ++ (f ++ (c ++ t))) ++ codes "\n")) (sym both)
    ∙ sym (ap (λ (t : List ℕ). o ++ t) (line_of-cons n (codes "4" ∷ decimal (length tet.tags) ∷ (ts ++ ks))))

-- one more node of the list
pub nodes_more : (i : ℕ) (numbers : List ℕ) (places : List V3) (number : ℕ) (place : V3) → slice_get numbers i ≡ Some number → slice_get places i ≡ Some place
    → take (i + 1) (zip numbers places) ≡ take i (zip numbers places) ++ (number, place) ∷ []
nodes_more i [] places number place h k = absurd cc
nodes_more i (m ∷ ms) [] number place h k = absurd cc
nodes_more zero (m ∷ ms) (x ∷ xs) number place h k =
    let e : m ≡ number = cc in
    let f : x ≡ place = cc in
    λ t. (e t, f t) ∷ []
nodes_more (suc i) (m ∷ ms) (x ∷ xs) number place h k =
    let s : suc i + 1 ≡ suc (i + 1) = omega arith in
    rw s (ap (λ (t : List (ℕ × V3)). (m, x) ∷ t) (nodes_more i ms xs number place h k))

-- the line of one more node
pub node_lines_more : (digits i : ℕ) (o out out' : List ℕ) (numbers : List ℕ) (places : List V3) (number : ℕ) (place : V3) → slice_get numbers i ≡ Some number → slice_get places i ≡ Some place
    → out ≡ o ++ flat_map line_of (map (node_row digits) (take i (zip numbers places))) → out' ≡ out ++ line_of (node_row digits (number, place))
    → out' ≡ o ++ flat_map line_of (map (node_row digits) (take (i + 1) (zip numbers places)))
node_lines_more digits i o out out' numbers places number place h k e f =
    let before = take i (zip numbers places) in
    let rows : map (node_row digits) (take (i + 1) (zip numbers places)) ≡ map (node_row digits) before ++ node_row digits (number, place) ∷ [] =
    ap (map (node_row digits)) (nodes_more i numbers places number place h k) ∙ map-append (node_row digits) before ((number, place) ∷ []) in
    f ∙ ap (λ (t : List ℕ). t ++ line_of (node_row digits (number, place))) e ∙ flat_map_more line_of o (map (node_row digits) before) (node_row digits (number, place))
    ∙ ap (λ (t : List Row). o ++ flat_map line_of t) (sym rows)

-- all nodes
pub all_nodes : (i : ℕ) (numbers : List ℕ) (places : List V3) → length places ≤ i → take i (zip numbers places) ≡ zip numbers places
all_nodes i numbers places h = take_all _ _ (omega (arith, length-zip numbers places))

abbrev pub head_text : List ℕ
head_text = codes "$MeshFormat\n2.2 0 8\n$EndMeshFormat\n$Nodes\n"

abbrev pub middle_text : List ℕ
middle_text = codes "$EndNodes\n$Elements\n"

abbrev pub end_text : List ℕ
end_text = codes "$EndElements\n"

-- a frame piece by piece
frame_parts : (mesh : Mesh) (places : List V3) (digits : ℕ) → frame_text mesh places digits
    ≡ head_text ++ ((decimal (length mesh.numbers) ++ codes "\n") ++ (flat_map line_of (map (node_row digits) (zip mesh.numbers places))
    ++ (middle_text ++ ((decimal (length mesh.tets) ++ codes "\n") ++ (flat_map line_of (map (tet_row mesh.numbers) mesh.tets) ++ end_text)))))
unfolding frame_text
frame_parts mesh places digits =
    let nodes = map (node_row digits) (zip mesh.numbers places) in
    let tets = map (tet_row mesh.numbers) mesh.tets in
    let ending : Row = codes "$EndNodes" ∷ [] in
    let tail : flat_map line_of (tets ++ (codes "$EndElements" ∷ []) ∷ []) ≡ flat_map line_of tets ++ end_text = flat_map-append line_of tets ((codes "$EndElements" ∷ []) ∷ []) in
    let rest = tet_rows mesh.numbers mesh.tets in
    let front : flat_map line_of ((nodes ++ ending ∷ []) ++ rest) ≡ flat_map line_of nodes ++ flat_map line_of (ending ∷ rest) =
    ap (flat_map line_of) (append_assoc nodes (ending ∷ []) rest) ∙ flat_map-append line_of nodes (ending ∷ rest) in
    ap (λ (t : List ℕ). head_text ++ ((decimal (length mesh.numbers) ++ codes "\n") ++ t)) front
    ∙ ap (λ (t : List ℕ). head_text ++ ((decimal (length mesh.numbers) ++ codes "\n") ++ (flat_map line_of nodes ++ (middle_text ++ ((decimal (length mesh.tets) ++ codes "\n") ++ t))))) tail

regroup_8 : (o h n ns f t ts e : List ℕ) → ((((((((o ++ h) ++ n) ++ codes "\n") ++ ns) ++ f) ++ t) ++ codes "\n") ++ ts) ++ e
    ≡ o ++ (h ++ ((n ++ codes "\n") ++ (ns ++ (f ++ ((t ++ codes "\n") ++ (ts ++ e))))))
regroup_8 o h n ns f t ts e = simp append_assoc

-- what was written of a frame is its text
pub frame_whole : (mesh : Mesh) (places : List V3) (digits : ℕ) (o o1 o2 o3 o4 o5 o6 o7 o8 o9 : List ℕ) → o1 ≡ o ++ head_text → o2 ≡ o1 ++ decimal (length mesh.numbers) → o3 ≡ o2 ++ codes "\n"
    → o4 ≡ o3 ++ flat_map line_of (map (node_row digits) (zip mesh.numbers places)) → o5 ≡ o4 ++ middle_text → o6 ≡ o5 ++ decimal (length mesh.tets) → o7 ≡ o6 ++ codes "\n"
    → o8 ≡ o7 ++ flat_map line_of (map (tet_row mesh.numbers) mesh.tets) → o9 ≡ o8 ++ end_text → o9 ≡ o ++ frame_text mesh places digits
frame_whole mesh places digits o o1 o2 o3 o4 o5 o6 o7 o8 o9 e1 e2 e3 e4 e5 e6 e7 e8 e9 =
    let n = decimal (length mesh.numbers) in
    let ns = flat_map line_of (map (node_row digits) (zip mesh.numbers places)) in
    let t = decimal (length mesh.tets) in
    let ts = flat_map line_of (map (tet_row mesh.numbers) mesh.tets) in
    let parts : o9 ≡ ((((((((o ++ head_text) ++ n) ++ codes "\n") ++ ns) ++ middle_text) ++ t) ++ codes "\n") ++ ts) ++ end_text =
    e9 ∙ ap (λ (x : List ℕ). x ++ end_text) (e8 ∙ ap (λ (x : List ℕ). x ++ ts) (e7 ∙ ap (λ (x : List ℕ). x ++ codes "\n") (e6 ∙ ap (λ (x : List ℕ). x ++ t) (e5 ∙ ap (λ (x : List ℕ). x ++ middle_text)
    (e4 ∙ ap (λ (x : List ℕ). x ++ ns) (e3 ∙ ap (λ (x : List ℕ). x ++ codes "\n") (e2 ∙ ap (λ (x : List ℕ). x ++ n) e1))))))) in
    parts ∙ regroup_8 o head_text n ns middle_text t ts end_text ∙ sym (ap (λ x. o ++ x) (frame_parts mesh places digits))
