-- The parts of a surface are sides of tetrahedra: vertices, edges and triangles.
use Rattle.std.proofs.Common.{◌≡◌, ℕ, zero, suc, ◌+◌, ◌<◌, ◌≤◌, min, max, List, [], ◌∷◌, map, length, get_or, inl, inr, refl, sym, subst, arith, lit<}
use Rattle.std.specs.Prelude.{slice_index}
use Rattle.std.specs.List.{All, Contains, enumerate_from, flat_map}
use Rattle.std.specs.List.Sorted.{IsStrictlyIncreasing}
use Rattle.std.proofs.lemmas.Bool.{cases_lt}
use Rattle.std.proofs.lemmas.List.{get_or-map, length-map}
use Rattle.std.proofs.lemmas.List.Elements.{All-nil, All-cons, All-contains, All-map, All-weaker, Contains-get_or}
use Rattle.std.proofs.lemmas.List.FromFn.{get_or-enumerate_from, length-enumerate_from}
use Rattle.list_laws.proofs.Membership.{All-flat_map, Contains-from_filter, Contains-from_flat_map}
use Rattle.space3.specs.declared.lists.Tet.{Tet}
use Rattle.space3.specs.declared.mesh.Mesh.{Mesh}
use Rattle.space3.specs.Mesh.{IsSound, IsSoundTet}
use Rattle.boundary.specs.declared.faces.Face.{Face}
use Rattle.boundary.specs.declared.pairs.PairKind.{PairKind}
use Rattle.boundary.specs.declared.pairs.PairKind.TheVariants.{VE, VT, EE, ET}
use Rattle.boundary.specs.Faces.{ascending, face_of, faces_at, faces_of, has_corners, three, turns_of}
use Rattle.boundary.specs.Pairs.{first_parts, second_parts}
use Rattle.boundary.specs.Surface.{AreSurfaceLists, IsAscendingTriple, IsBoundaryFace, IsSurface, SurfaceLists, sides_of}
use Rattle.boundary.proofs.Order.{same_nodes}

-- all nodes are of one tetrahedron of the list
pub record AreOfTet (tets : List Tet) (nodes : List ℕ) : Type 0 where
  pub tet : Tet
  pub there : Contains tets tet
  pub each : All (Contains tet.nodes) nodes

-- so many nodes of one tetrahedron, ascending
pub record IsSide (tets : List Tet) (size : ℕ) (nodes : List ℕ) : Type 0 where
  pub of_tet : AreOfTet tets nodes
  pub sized : length nodes ≡ size
  pub ascending : IsStrictlyIncreasing nodes

-- how many nodes the first and the second part of a pair have
abbrev pub first_size : PairKind → ℕ
first_size VE = 1
first_size VT = 1
first_size EE = 2
first_size ET = 2

abbrev pub second_size : PairKind → ℕ
second_size VE = 2
second_size VT = 3
second_size EE = 2
second_size ET = 3

some_of_tet : (tets : List Tet) (nodes part : List ℕ) → AreOfTet tets nodes → All (Contains nodes) part → AreOfTet tets part
some_of_tet tets nodes part h k = record {
  tet = h.tet;
  there = h.there;
  each = All-weaker (Contains nodes) (Contains h.tet.nodes) (λ node i. All-contains (Contains h.tet.nodes) nodes node h.each i) part k;
}

-- ---- faces
module _ (P : ℕ → Type 0) where
  least_of_two : (a b : ℕ) → P a → P b → P (min a b)
  least_of_two a b h k = elim (cases_lt a b) [ inl l ↦ subst P (first a b l) h | inr m ↦ subst P (second a b m) k ]
    where
      first : (a b : ℕ) → a < b → a ≡ min a b
      first a b l = omega arith

      second : (a b : ℕ) → b ≤ a → b ≡ min a b
      second a b l = omega arith

  greatest_of_two : (a b : ℕ) → P a → P b → P (max a b)
  greatest_of_two a b h k = elim (cases_lt a b) [ inl l ↦ subst P (second a b l) k | inr m ↦ subst P (first a b m) h ]
    where
      first : (a b : ℕ) → b ≤ a → a ≡ max a b
      first a b l = omega arith

      second : (a b : ℕ) → a < b → b ≡ max a b
      second a b l = omega arith

  ascending_of : (a b c : ℕ) → P a → P b → P c → All P (ascending (three a b c))
  ascending_of a b c h k l =
      All-cons P (min (min a b) c) (max (min a b) (min (max a b) c) ∷ max (max a b) c ∷ []) (least_of_two (min a b) c low l)
      (All-cons P (max (min a b) (min (max a b) c)) (max (max a b) c ∷ []) (greatest_of_two (min a b) (min (max a b) c) low (least_of_two (max a b) c high l))
      (All-cons P (max (max a b) c) [] (greatest_of_two (max a b) c high l) (All-nil P)))
    where
      low : P (min a b)
      low = least_of_two a b h k

      high : P (max a b)
      high = greatest_of_two a b h k

-- the faces of a tetrahedron of four nodes have its nodes
faces_of_tet : (k : ℕ) (tet : Tet) → length tet.nodes ≡ 4 → All (λ f. All (Contains tet.nodes) f.corners) (map (face_of k) (turns_of tet.nodes))
faces_of_tet k tet four =
    let n = slice_index tet.nodes in
    let P : List ℕ → Type 0 = λ t. All (Contains tet.nodes) (ascending t) in
    All-map (λ f. All (Contains tet.nodes) f.corners) (face_of k) (turns_of tet.nodes)
    (All-cons P (three (n 1) (n 2) (n 3)) (three (n 0) (n 3) (n 2) ∷ three (n 0) (n 1) (n 3) ∷ three (n 0) (n 2) (n 1) ∷ []) (turn 1 2 3 (lit< tt) (lit< tt) (lit< tt))
    (All-cons P (three (n 0) (n 3) (n 2)) (three (n 0) (n 1) (n 3) ∷ three (n 0) (n 2) (n 1) ∷ []) (turn 0 3 2 (lit< tt) (lit< tt) (lit< tt))
    (All-cons P (three (n 0) (n 1) (n 3)) (three (n 0) (n 2) (n 1) ∷ []) (turn 0 1 3 (lit< tt) (lit< tt) (lit< tt))
    (All-cons P (three (n 0) (n 2) (n 1)) [] (turn 0 2 1 (lit< tt) (lit< tt) (lit< tt)) (All-nil P)))))
  where
    turn : (i j l : ℕ) → i < 4 → j < 4 → l < 4 → All (Contains tet.nodes) (ascending (three (slice_index tet.nodes i) (slice_index tet.nodes j) (slice_index tet.nodes l)))
    turn i j l il jl ll =
        ascending_of (Contains tet.nodes) (slice_index tet.nodes i) (slice_index tet.nodes j) (slice_index tet.nodes l)
        (Contains-get_or tet.nodes i 0 (omega (arith, four))) (Contains-get_or tet.nodes j 0 (omega (arith, four))) (Contains-get_or tet.nodes l 0 (omega (arith, four)))

faces_of_tets : (nodes : ℕ) (tets : List Tet) → All (IsSoundTet nodes) tets → All (λ f. AreOfTet tets f.corners) (faces_of tets)
faces_of_tets nodes tets sound =
    All-flat_map (λ f. AreOfTet tets f.corners) (λ placed. map (face_of placed.0) (turns_of placed.1.nodes)) (enumerate_from 0 tets)
    (λ k d l.
    let below : k < length tets = omega (arith, length-enumerate_from 0 tets) in
    subst (λ placed. All (λ f. AreOfTet tets f.corners) (map (face_of placed.0) (turns_of placed.1.nodes)))
    (sym (get_or-enumerate_from 0 tets k d below))
    (here (0 + k) (get_or tets k d.1) (Contains-get_or tets k d.1 below) (sound k d.1 below)))
  where
    here : (k : ℕ) (tet : Tet) → Contains tets tet → IsSoundTet nodes tet → All (λ f. AreOfTet tets f.corners) (map (face_of k) (turns_of tet.nodes))
    here k tet there h =
        All-weaker (λ f. All (Contains tet.nodes) f.corners) (λ f. AreOfTet tets f.corners) (λ f each. record { tet = tet; there = there; each = each })
        (map (face_of k) (turns_of tet.nodes)) (faces_of_tet k tet h.four)

boundary_face_of_tet : (mesh : Mesh) (corners : List ℕ) → IsSound mesh → IsBoundaryFace mesh corners → AreOfTet mesh.tets corners
boundary_face_of_tet mesh corners sound h =
    let none : Face = record { corners = corners; turn = corners; tet = 0 } in
    let some : 0 < length (faces_at mesh corners) = omega (arith, h.once, length-map (faces_at mesh corners) (λ f. f.tet)) in
    let face = get_or (faces_at mesh corners) 0 none in
    let found = Contains-from_filter (has_corners corners) (faces_of mesh.tets) face (Contains-get_or (faces_at mesh corners) 0 none some) in
    subst (AreOfTet mesh.tets) (same_nodes face.corners corners found.1)
    (All-contains (λ f. AreOfTet mesh.tets f.corners) (faces_of mesh.tets) face (faces_of_tets (length mesh.numbers) mesh.tets sound.tets) found.0)

-- ---- the parts of a surface
one_rises : (a : ℕ) → IsStrictlyIncreasing (a ∷ [])
one_rises a k l = absurd (omega arith)

two_rise : (a b : ℕ) → a < b → IsStrictlyIncreasing (a ∷ b ∷ [])
two_rise a b h zero l = h
two_rise a b h (suc k) l = absurd (omega arith)

-- two nodes of an ascending triple
record IsSideOf (triangle side : List ℕ) : Type 0 where
  each : All (Contains triangle) side
  sized : length side ≡ 2
  ascending : IsStrictlyIncreasing side

sides_are_sides : (triangle : List ℕ) → IsAscendingTriple triangle → All (IsSideOf triangle) (sides_of triangle)
sides_are_sides triangle h =
    let n = slice_index triangle in
    let P : List ℕ → Type 0 = IsSideOf triangle in
    All-cons P (n 0 ∷ n 1 ∷ []) ((n 0 ∷ n 2 ∷ []) ∷ (n 1 ∷ n 2 ∷ []) ∷ []) (side 0 1 (lit< tt) (lit< tt) low)
    (All-cons P (n 0 ∷ n 2 ∷ []) ((n 1 ∷ n 2 ∷ []) ∷ []) (side 0 2 (lit< tt) (lit< tt) (both low high))
    (All-cons P (n 1 ∷ n 2 ∷ []) [] (side 1 2 (lit< tt) (lit< tt) high) (All-nil P)))
  where
    low : slice_index triangle 0 < slice_index triangle 1
    low = h.ascending 0 (omega (arith, h.three))

    high : slice_index triangle 1 < slice_index triangle 2
    high = h.ascending 1 (omega (arith, h.three))

    both : {a b c : ℕ} → a < b → b < c → a < c
    both h k = omega (arith, h, k)

    side : (i j : ℕ) → i < 3 → j < 3 → slice_index triangle i < slice_index triangle j → IsSideOf triangle (slice_index triangle i ∷ slice_index triangle j ∷ [])
    side i j il jl rises = record {
      each = All-cons (Contains triangle) (slice_index triangle i) (slice_index triangle j ∷ []) (Contains-get_or triangle i 0 (omega (arith, h.three)))
          (All-cons (Contains triangle) (slice_index triangle j) [] (Contains-get_or triangle j 0 (omega (arith, h.three))) (All-nil (Contains triangle)));
      sized = refl;
      ascending = two_rise (slice_index triangle i) (slice_index triangle j) rises;
    }

module _ (mesh : Mesh) (s : SurfaceLists) (sound : IsSound mesh) (surface : IsSurface mesh s) (lists : AreSurfaceLists s) where
  triangle_is_side : (triangle : List ℕ) → Contains s.triangles triangle → IsSide mesh.tets 3 triangle
  triangle_is_side triangle there =
      let triple : IsAscendingTriple triangle = All-contains IsAscendingTriple s.triangles triangle lists.each there in
      record {
        of_tet = boundary_face_of_tet mesh triangle sound (All-contains (IsBoundaryFace mesh) s.triangles triangle surface.triangles.each there);
        sized = triple.three;
        ascending = triple.ascending;
      }

  edge_is_side : (edge : List ℕ) → Contains s.edges edge → IsSide mesh.tets 2 edge
  edge_is_side edge there =
      let c = Contains-from_flat_map sides_of s.triangles edge (All-contains (Contains (flat_map sides_of s.triangles)) s.edges edge lists.edges.each there) in
      let side : IsSideOf c.0 edge = All-contains (IsSideOf c.0) (sides_of c.0) edge (sides_are_sides c.0 (All-contains IsAscendingTriple s.triangles c.0 lists.each c.1)) c.2 in
      record {
        of_tet = some_of_tet mesh.tets c.0 edge (triangle_is_side c.0 c.1).of_tet side.each;
        sized = side.sized;
        ascending = side.ascending;
      }

  vertex_is_side : (vertex : ℕ) → Contains s.vertices vertex → IsSide mesh.tets 1 (vertex ∷ [])
  vertex_is_side vertex there =
      let c = Contains-from_flat_map (λ triangle. triangle) s.triangles vertex (All-contains (Contains (flat_map (λ triangle. triangle) s.triangles)) s.vertices vertex lists.vertices.each there) in
      record {
        of_tet = some_of_tet mesh.tets c.0 (vertex ∷ []) (triangle_is_side c.0 c.1).of_tet (All-cons (Contains c.0) vertex [] c.2 (All-nil (Contains c.0)));
        sized = refl;
        ascending = one_rises vertex;
      }

  vertex_at : (a : ℕ) → a < length (first_parts s VT) → IsSide mesh.tets 1 (get_or (first_parts s VT) a [])
  vertex_at a h =
      let l : a < length s.vertices = omega (arith, h, length-map s.vertices (λ (vertex : ℕ). vertex ∷ [])) in
      subst (IsSide mesh.tets 1) (sym (get_or-map (λ (vertex : ℕ). vertex ∷ []) s.vertices a 0 [] l))
      (vertex_is_side (get_or s.vertices a 0) (Contains-get_or s.vertices a 0 l))

  edge_at : (a : ℕ) → a < length s.edges → IsSide mesh.tets 2 (get_or s.edges a [])
  edge_at a h = edge_is_side (get_or s.edges a []) (Contains-get_or s.edges a [] h)

  triangle_at : (a : ℕ) → a < length s.triangles → IsSide mesh.tets 3 (get_or s.triangles a [])
  triangle_at a h = triangle_is_side (get_or s.triangles a []) (Contains-get_or s.triangles a [] h)

  pub first_is_side : (kind : PairKind) (a : ℕ) → a < length (first_parts s kind) → IsSide mesh.tets (first_size kind) (get_or (first_parts s kind) a [])
  first_is_side VE = vertex_at
  first_is_side VT = vertex_at
  first_is_side EE = edge_at
  first_is_side ET = edge_at

  pub second_is_side : (kind : PairKind) (b : ℕ) → b < length (second_parts s kind) → IsSide mesh.tets (second_size kind) (get_or (second_parts s kind) b [])
  second_is_side VE = edge_at
  second_is_side VT = triangle_at
  second_is_side EE = edge_at
  second_is_side ET = triangle_at
