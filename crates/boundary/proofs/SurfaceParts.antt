-- The parts of a surface have one to three of its vertices.
use Rattle.std.proofs.Common.{◌≡◌, ap, refl, ◌⊎◌, ℕ, ◌<◌, List, [], ◌∷◌, map, length, get_or, sym, subst, arith, inl, inr, lit<}
use Rattle.std.specs.Prelude.{slice_index}
use Rattle.std.specs.List.{Contains, flat_map}
use Rattle.std.proofs.lemmas.List.Elements.{All-cons, All-contains, All-nil, Contains-get_or}
use Rattle.list_laws.proofs.Membership.{Contains-cons_cases, Contains-flat_map, Contains-from_flat_map, Contains-nil}
use Rattle.boundary.specs.Calls.Parts.{IsPart}
use Rattle.boundary.specs.Pairs.{first_parts, second_parts}
use Rattle.boundary.specs.declared.pairs.PairKind.{PairKind}
use Rattle.boundary.specs.declared.pairs.PairKind.TheVariants.{VE, VT, EE, ET}
use Rattle.std.proofs.lemmas.List.{get_or-map, length-map}
use Rattle.boundary.specs.Surface.{AreSurfaceLists, IsAscendingTriple, SurfaceLists, sides_of}

-- each node of a triangle is a vertex
of_triangle : (s : SurfaceLists) (triangle : List ℕ) (node : ℕ) → AreSurfaceLists s → Contains s.triangles triangle → Contains triangle node → Contains s.vertices node
of_triangle s triangle node h t n = h.vertices.all node (Contains-flat_map (λ t. t) s.triangles triangle node t n)

at_index : (s : SurfaceLists) (triangle : List ℕ) (i : ℕ) → AreSurfaceLists s → Contains s.triangles triangle → i < 3 → Contains s.vertices (slice_index triangle i)
at_index s triangle i h t l =
    let triple : IsAscendingTriple triangle = All-contains IsAscendingTriple s.triangles triangle h.each t in
    of_triangle s triangle (slice_index triangle i) h t (Contains-get_or triangle i 0 (omega (arith, triple.three)))

two : (s : SurfaceLists) (a b : ℕ) (side : List ℕ) → a ∷ b ∷ [] ≡ side → Contains s.vertices a → Contains s.vertices b → IsPart s side
two s a b side e ca cb =
    subst (IsPart s) e
    (record {
      some = omega arith;
      few = omega arith;
      vertices = All-cons (Contains s.vertices) a (b ∷ []) ca (All-cons (Contains s.vertices) b [] cb (All-nil (Contains s.vertices)));
    })

side_part : (s : SurfaceLists) (triangle side : List ℕ) → AreSurfaceLists s → Contains s.triangles triangle → Contains (sides_of triangle) side → IsPart s side
side_part s triangle side h t c =
    let n = slice_index triangle in
    let v : (i : ℕ) → i < 3 → Contains s.vertices (slice_index triangle i) = λ i l. at_index s triangle i h t l in
    elim (Contains-cons_cases (n 0 ∷ n 1 ∷ []) ((n 0 ∷ n 2 ∷ []) ∷ (n 1 ∷ n 2 ∷ []) ∷ []) side c) [
      | inl e ↦ two s (n 0) (n 1) side e (v 0 (lit< tt)) (v 1 (lit< tt))
      | inr r ↦ elim (Contains-cons_cases (n 0 ∷ n 2 ∷ []) ((n 1 ∷ n 2 ∷ []) ∷ []) side r) [
        | inl e ↦ two s (n 0) (n 2) side e (v 0 (lit< tt)) (v 2 (lit< tt))
        | inr q ↦ elim (Contains-cons_cases (n 1 ∷ n 2 ∷ []) [] side q) [
          | inl e ↦ two s (n 1) (n 2) side e (v 1 (lit< tt)) (v 2 (lit< tt))
          | inr z ↦ absurd (Contains-nil side z)
        ]
      ]
    ]

edge_part : (s : SurfaceLists) (edge : List ℕ) → AreSurfaceLists s → Contains s.edges edge → IsPart s edge
edge_part s edge h there =
    let c = All-contains (Contains (flat_map sides_of s.triangles)) s.edges edge h.edges.each there in
    let r = Contains-from_flat_map sides_of s.triangles edge c in
    side_part s r.0 edge h r.1 r.2

triangle_part : (s : SurfaceLists) (triangle : List ℕ) → AreSurfaceLists s → Contains s.triangles triangle → IsPart s triangle
triangle_part s triangle h there =
    let triple : IsAscendingTriple triangle = All-contains IsAscendingTriple s.triangles triangle h.each there in
    record {
      some = omega (arith, triple.three);
      few = omega (arith, triple.three);
      vertices = λ k d b. of_triangle s triangle (get_or triangle k d) h there (Contains-get_or triangle k d b);
    }

-- what stands in a list that is another stands in that one
in_same : {A : Type 0} (xs ys : List A) (i : ℕ) (d : A) → xs ≡ ys → i < length ys → Contains ys (get_or xs i d)
in_same xs ys i d e l = subst (λ zs. Contains ys (get_or zs i d)) (sym e) (Contains-get_or ys i d l)

-- a bound that is the same for both of two kinds holds for a kind that is one of them
of_either : (count : PairKind → ℕ) (kind k l : PairKind) (a n : ℕ) → (kind ≡ k) ⊎ (kind ≡ l) → count k ≡ n → count l ≡ n → a < count kind → a < n
of_either count kind k l a n either at_k at_l h =
    elim either [
      | inl e ↦ omega (arith, h, ap count e, at_k)
      | inr e ↦ omega (arith, h, ap count e, at_l)
    ]

pub first_is_vertex : (s : SurfaceLists) (kind : PairKind) (vertices nodes : List ℕ) (a : ℕ) → (kind ≡ VE) ⊎ (kind ≡ VT) → a < length (first_parts s kind) → vertices ≡ s.vertices → nodes ≡ get_or vertices a 0 ∷ [] → IsPart s nodes
first_is_vertex s kind vertices nodes a k h e is =
    let alone = length-map s.vertices (λ v. v ∷ []) in
    let long = of_either (λ x. length (first_parts s x)) kind VE VT a (length s.vertices) k alone alone h in
    subst (IsPart s) (sym is)
    (record {
      some = omega arith;
      few = omega arith;
      vertices =
          All-cons (Contains s.vertices) (get_or vertices a 0) [] (in_same vertices s.vertices a 0 e long)
          (All-nil (Contains s.vertices));
    })

pub first_is_edge : (s : SurfaceLists) (kind : PairKind) (edges : List (List ℕ)) (a : ℕ) → AreSurfaceLists s → (kind ≡ EE) ⊎ (kind ≡ ET) → a < length (first_parts s kind) → edges ≡ s.edges → IsPart s (get_or edges a [])
first_is_edge s kind edges a lists k h e =
    let long = of_either (λ x. length (first_parts s x)) kind EE ET a (length s.edges) k refl refl h in
    edge_part s (get_or edges a []) lists (in_same edges s.edges a [] e long)

pub second_is_edge : (s : SurfaceLists) (kind : PairKind) (edges : List (List ℕ)) (b : ℕ) → AreSurfaceLists s → (kind ≡ VE) ⊎ (kind ≡ EE) → b < length (second_parts s kind) → edges ≡ s.edges → IsPart s (get_or edges b [])
second_is_edge s kind edges b lists k h e =
    let long = of_either (λ x. length (second_parts s x)) kind VE EE b (length s.edges) k refl refl h in
    edge_part s (get_or edges b []) lists (in_same edges s.edges b [] e long)

pub second_is_triangle : (s : SurfaceLists) (kind : PairKind) (triangles : List (List ℕ)) (b : ℕ) → AreSurfaceLists s → (kind ≡ VT) ⊎ (kind ≡ ET) → b < length (second_parts s kind) → triangles ≡ s.triangles → IsPart s (get_or triangles b [])
second_is_triangle s kind triangles b lists k h e =
    let long = of_either (λ x. length (second_parts s x)) kind VT ET b (length s.triangles) k refl refl h in
    triangle_part s (get_or triangles b []) lists (in_same triangles s.triangles b [] e long)

-- ---- the parts of a pair
-- a vertex in the list of parts that are vertices
alone : (vertices : List ℕ) (a : ℕ) → a < length (map (λ (vertex : ℕ). vertex ∷ []) vertices) → get_or (map (λ (vertex : ℕ). vertex ∷ []) vertices) a [] ≡ get_or vertices a 0 ∷ []
alone vertices a h = get_or-map (λ (vertex : ℕ). vertex ∷ []) vertices a 0 [] (omega (arith, h, length-map vertices (λ (vertex : ℕ). vertex ∷ [])))

pub first_of_pair : (s : SurfaceLists) (kind : PairKind) (a : ℕ) → AreSurfaceLists s → a < length (first_parts s kind) → IsPart s (get_or (first_parts s kind) a [])
first_of_pair s VE a lists h = first_is_vertex s VE s.vertices (get_or (first_parts s VE) a []) a (inl refl) h refl (alone s.vertices a h)
first_of_pair s VT a lists h = first_is_vertex s VT s.vertices (get_or (first_parts s VT) a []) a (inr refl) h refl (alone s.vertices a h)
first_of_pair s EE a lists h = first_is_edge s EE s.edges a lists (inl refl) h refl
first_of_pair s ET a lists h = first_is_edge s ET s.edges a lists (inr refl) h refl

pub second_of_pair : (s : SurfaceLists) (kind : PairKind) (b : ℕ) → AreSurfaceLists s → b < length (second_parts s kind) → IsPart s (get_or (second_parts s kind) b [])
second_of_pair s VE b lists h = second_is_edge s VE s.edges b lists (inl refl) h refl
second_of_pair s VT b lists h = second_is_triangle s VT s.triangles b lists (inl refl) h refl
second_of_pair s EE b lists h = second_is_edge s EE s.edges b lists (inr refl) h refl
second_of_pair s ET b lists h = second_is_triangle s ET s.triangles b lists (inr refl) h refl
