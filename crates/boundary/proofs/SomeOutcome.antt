-- Each mesh has a surface, or a reason why it has none.
use Rattle.std.proofs.Common.{◌≡◌, ◌∙◌, ℕ, ◌<◌, true, List, [], ◌∷◌, inl, inr, map, length, Option, Some, None, ap, sym, refl, subst, arith}
use Rattle.std.specs.Prelude.{find, Result, Ok, Err}
use Rattle.std.specs.List.{All, Contains, filter, flat_map}
use Rattle.std.specs.List.Sorted.{IsStrictlySortedBy}
use Rattle.std.specs.Option.{option_map}
use Rattle.std.specs.Ordering.{is_eq, nat_cmp}
use Rattle.std.specs.Cmp.{unsigned_ties}
use Rattle.std.specs.Cmp.Lexicographic.{texts_ties}
use borrow.Author.Tests.{eqb-true}
use Rattle.std.proofs.lemmas.Bool.{cases_lt}
use Rattle.std.proofs.lemmas.Cmp.{nat_cmp_total}
use Rattle.std.proofs.lemmas.List.Elements.{All-head, All-map, All-tail, All-weaker}
use Rattle.space3.specs.declared.mesh.Mesh.{Mesh}
use Rattle.list_laws.proofs.Membership.{Contains-filter, Contains-from_filter, Contains-from_map, Contains-here, Contains-map}
use Rattle.boundary.specs.declared.faces.Face.{Face}
use Rattle.boundary.specs.declared.limits.TheConstants.{TRIANGLE_LIMIT}
use Rattle.boundary.specs.declared.refusal.SurfErr.{SurfErr}
use Rattle.boundary.specs.declared.refusal.SurfErr.TheVariants.{FaceThrice, FaceSame, TooManyTriangles}
use Rattle.boundary.specs.Calls.Groups.{are_two_alike, first_corners, first_tets, has_one, has_three}
use Rattle.boundary.specs.Faces.{corners_of, faces_at, faces_of, has_corners, node_order}
use Rattle.boundary.specs.Outcomes.{IsSurfaceOutcome}
use Rattle.boundary.specs.Refusals.{IsConforming}
use Rattle.boundary.specs.SortedLists.{IsSortedListOf}
use Rattle.boundary.specs.Surface.{IsBoundaryFace, SurfaceLists, lists_of, sides_of}
use Rattle.boundary.proofs.Order.{is_total, same_nodes, same_test}
use Rattle.boundary.proofs.OwnersInGroups.{AreOf, IsWhole, conforming, least_same, least_thrice, none_thrice, singles}
use Rattle.boundary.proofs.SortedSets.{sorted_set}

-- each list of lists of nodes, and each list of nodes, has the sorted list of exactly its elements
sorted_lists : (xs : List (List ℕ)) → (zs : List (List ℕ)) × IsSortedListOf node_order (Contains xs) zs
sorted_lists = sorted_set is_total (λ x y e. same_nodes x y (texts_ties x y ∙ ap is_eq e))

sorted_numbers : (xs : List ℕ) → (zs : List ℕ) × IsSortedListOf nat_cmp (Contains xs) zs
sorted_numbers = sorted_set nat_cmp_total (λ x y e. eqb-true x y (unsigned_ties x y ∙ ap is_eq e))

-- ---- the faces of a mesh in groups
-- some face has these corners
abbrev HasFace : Mesh → List ℕ → Type 0
HasFace mesh = Contains (map corners_of (faces_of mesh.tets))

-- then there are faces with them
some_at : (mesh : Mesh) (corners : List ℕ) → HasFace mesh corners → 0 < length (faces_at mesh corners)
some_at mesh corners i =
    let r = Contains-from_map corners_of (faces_of mesh.tets) corners i in
    let there : Contains (faces_at mesh corners) r.0 = Contains-filter (has_corners corners) (faces_of mesh.tets) r.0 (same_test r.0.corners corners r.2) r.1 in
    omega (arith, there.1)

-- the first of them has them
first_at : (mesh : Mesh) (corners : List ℕ) → HasFace mesh corners → first_corners (faces_at mesh corners) ≡ corners
first_at mesh corners i =
    by (faces_at mesh corners) (λ f j. (Contains-from_filter (has_corners corners) (faces_of mesh.tets) f j).1) (some_at mesh corners i)
  where
    by : (group : List Face) → ((f : Face) → Contains group f → has_corners corners f ≡ true) → 0 < length group → first_corners group ≡ corners
    by [] h l = absurd (omega arith)
    by (f ∷ fs) h l = same_nodes f.corners corners (h f (Contains-here f fs))

-- and they are a whole group
whole_at : (mesh : Mesh) (corners : List ℕ) → HasFace mesh corners → IsWhole mesh (faces_at mesh corners)
whole_at mesh corners i = record {
  some = some_at mesh corners i;
  whole = ap (faces_at mesh) (sym (first_at mesh corners i));
}

-- where there are faces with some corners, some face has them
is_listed : (mesh : Mesh) (corners : List ℕ) → 0 < length (faces_at mesh corners) → HasFace mesh corners
is_listed mesh corners l =
    let some = element (faces_at mesh corners) l in
    let there = Contains-from_filter (has_corners corners) (faces_of mesh.tets) some.0 some.1 in
    subst (HasFace mesh) (same_nodes some.0.corners corners there.1) (Contains-map corners_of (faces_of mesh.tets) some.0 there.0)
  where
    element : (faces : List Face) → 0 < length faces → (f : Face) × Contains faces f
    element [] l = absurd (omega arith)
    element (f ∷ fs) l = (f, Contains-here f fs)

-- a map that each element comes back from, and the map back
mapped_back : {A B : Type 0} (f : A → B) (g : B → A) (xs : List A) → All (λ x. g (f x) ≡ x) xs → map g (map f xs) ≡ xs
mapped_back f g [] h = refl
mapped_back f g (x ∷ xs) h = λ i. All-head (λ x. g (f x) ≡ x) x xs h i ∷ mapped_back f g xs (All-tail (λ x. g (f x) ≡ x) x xs h) i

-- the faces with each of the sorted corners are the groups of a mesh
groups_at : (mesh : Mesh) (sorted : List (List ℕ)) → IsSortedListOf node_order (HasFace mesh) sorted → AreOf mesh (map (faces_at mesh) sorted)
groups_at mesh sorted s = record {
  each = All-map (IsWhole mesh) (faces_at mesh) sorted (All-weaker (HasFace mesh) (λ corners. IsWhole mesh (faces_at mesh corners)) (whole_at mesh) sorted s.each);
  rising = subst (IsStrictlySortedBy node_order) (sym back) s.sorted;
  all = λ corners l. subst (λ all. Contains all corners) (sym back) (s.all corners (is_listed mesh corners l));
}
  where
    back : map first_corners (map (faces_at mesh) sorted) ≡ sorted
    back = mapped_back (faces_at mesh) first_corners sorted (All-weaker (HasFace mesh) (λ corners. first_corners (faces_at mesh corners) ≡ corners) (first_at mesh) sorted s.each)

-- ---- what comes of a mesh
-- the triangles of a conforming mesh are too many, or they have sides and nodes
of_triangles : (mesh : Mesh) (triangles : List (List ℕ)) → IsConforming mesh → IsSortedListOf node_order (IsBoundaryFace mesh) triangles → (outcome : Result SurfaceLists SurfErr) × IsSurfaceOutcome mesh outcome
of_triangles mesh triangles conforming single =
    elim (cases_lt TRIANGLE_LIMIT (length triangles)) [
      | inl many ↦ (Err (TooManyTriangles (length triangles)), record { conforming = conforming; triangles = triangles; single = single; counted = refl; many = many })
      | inr few ↦
          let edges = sorted_lists (flat_map sides_of triangles) in
          let vertices = sorted_numbers (flat_map (λ triangle. triangle) triangles) in (
            Ok (lists_of vertices.0 edges.0 triangles),
            record {
              conforming = conforming;
              is_surface = record { triangles = single; edges = edges.1; vertices = vertices.1 };
              few = few;
            },
          )
    ]

-- the first group of three faces, or of two in the same turn, or neither
of_groups : (mesh : Mesh) (groups : List (List Face)) → AreOf mesh groups → (outcome : Result SurfaceLists SurfErr) × IsSurfaceOutcome mesh outcome
of_groups mesh groups g = thrice (find has_three groups) refl
  where
    same : None ≡ option_map (first_tets 3) (find has_three groups) → (found : Option (List Face)) → find are_two_alike groups ≡ found → (outcome : Result SurfaceLists SurfErr) × IsSurfaceOutcome mesh outcome
    same none (Some group) e = (Err (FaceSame (first_tets 2 group)), least_same mesh groups (first_tets 2 group) g (none_thrice mesh groups g none) (sym (ap (option_map (first_tets 2)) e)))
    same none None e =
        of_triangles mesh (map first_corners (filter has_one groups))
        (conforming mesh groups g none (sym (ap (option_map (first_tets 2)) e)))
        (singles mesh groups (map first_corners (filter has_one groups)) g refl)

    thrice : (found : Option (List Face)) → find has_three groups ≡ found → (outcome : Result SurfaceLists SurfErr) × IsSurfaceOutcome mesh outcome
    thrice (Some group) e = (Err (FaceThrice (first_tets 3 group)), least_thrice mesh groups (first_tets 3 group) g (sym (ap (option_map (first_tets 3)) e)))
    thrice None e = same (sym (ap (option_map (first_tets 3)) e)) (find are_two_alike groups) refl

-- each mesh has a surface, or a reason why it has none
pub some_surface_outcome : (mesh : Mesh) → (outcome : Result SurfaceLists SurfErr) × IsSurfaceOutcome mesh outcome
some_surface_outcome mesh =
    let sorted = sorted_lists (map corners_of (faces_of mesh.tets)) in
    of_groups mesh (map (faces_at mesh) sorted.0) (groups_at mesh sorted.0 sorted.1)
