-- What the groups of a mesh's sorted faces say of its faces.
use Rattle.std.proofs.Common.{◌≡◌, ◌∙◌, ℕ, ◌<◌, ◌≤◌, true, List, [], ◌∷◌, map, length, get_or, take, Option, Some, None, ap, sym, refl, subst, arith}
use Rattle.std.specs.Prelude.{find}
use Rattle.std.specs.List.{All, Contains, filter}
use Rattle.std.specs.List.Sorted.{IsSortedByKey, IsStrictlySortedBy}
use Rattle.std.specs.Option.{option_map}
use Rattle.std.specs.declared.cmp.Ordering.TheVariants.{Less}
use borrow.Author.Tests.{eqb-true, eq-eqb}
use Rattle.std.proofs.lemmas.Bool.{leb-true, le-leb}
use Rattle.std.proofs.lemmas.List.{length-map}
use Rattle.std.proofs.lemmas.List.Elements.{All-contains, All-filter, All-map, All-same, All-head, Contains-get_or}
use Rattle.space3.specs.declared.mesh.Mesh.{Mesh}
use Rattle.list_laws.proofs.Membership.{Contains-filter, Contains-from_filter, Contains-from_map, Contains-map}
use Rattle.list_laws.proofs.StrictlySorted.{found_first, found_none, sorted_keys-filter}
use Rattle.boundary.specs.declared.faces.Face.{Face}
use Rattle.boundary.specs.Calls.Groups.{are_two_alike, first_corners, first_tets, groups_of, has_one, has_three}
use Rattle.boundary.specs.Faces.{corners_of, faces_at, has_corners, have_same_turn, node_order, owners_of}
use Rattle.boundary.specs.Refusals.{AreSame, AreThrice, IsConforming, IsSame, IsThrice}
use Rattle.boundary.specs.SortedLists.{IsSortedListOf}
use Rattle.boundary.specs.Surface.{IsBoundaryFace}
use Rattle.boundary.proofs.Order.{is_total}
use Rattle.boundary.proofs.SortedGroups.{sorted_groups}

-- a group is the faces with its corners
pub record IsWhole (mesh : Mesh) (group : List Face) : Type 0 where
  pub some : 0 < length group
  pub whole : group ≡ faces_at mesh (first_corners group)

-- each group is whole, their corners rise, and the corners of each face are those of a group
pub record AreOf (mesh : Mesh) (groups : List (List Face)) : Type 0 where
  pub each : All (IsWhole mesh) groups
  pub rising : IsStrictlySortedBy node_order (map first_corners groups)
  pub all : (corners : List ℕ) → 0 < length (faces_at mesh corners) → Contains (map first_corners groups) corners

pub groups_of_mesh : (mesh : Mesh) (faces : List Face) → IsSortedByKey corners_of node_order faces → ((corners : List ℕ) → filter (has_corners corners) faces ≡ faces_at mesh corners) → AreOf mesh (groups_of faces)
groups_of_mesh mesh faces up same =
    let g = sorted_groups faces up in
    record {
      each = λ k d l. let group = g.each k d l in record { some = group.some; whole = group.whole ∙ same (first_corners (get_or (groups_of faces) k d)) };
      rising = g.rising;
      all = λ corners h. g.all corners (subst (λ l. 0 < length l) (sym (same corners)) h);
    }

-- the faces with some corners, where there are any, are one of the groups
group_at : (mesh : Mesh) (groups : List (List Face)) (corners : List ℕ) → AreOf mesh groups → 0 < length (faces_at mesh corners) → (group : List Face) × Contains groups group × (first_corners group ≡ corners) × (group ≡ faces_at mesh corners)
group_at mesh groups corners g h =
    let r = Contains-from_map first_corners groups corners (g.all corners h) in
    let whole : IsWhole mesh r.0 = All-contains (IsWhole mesh) groups r.0 g.each r.1 in
    (r.0, r.1, r.2, whole.whole ∙ ap (faces_at mesh) r.2)

owner_count : (mesh : Mesh) (corners : List ℕ) → length (owners_of mesh corners) ≡ length (faces_at mesh corners)
owner_count mesh corners = length-map (faces_at mesh corners) (λ (f : Face). f.tet)

from_map : {A B : Type 0} (f : A → B) (o : Option A) (y : B) → Some y ≡ option_map f o → (x : A) × (o ≡ Some x) × (y ≡ f x)
from_map f None y e = cc
from_map f (Some x) y e = (x, refl, cc)

from_none : {A B : Type 0} (f : A → B) (o : Option A) → None ≡ option_map f o → o ≡ None
from_none f None e = refl
from_none f (Some x) e = cc

-- where no group has three faces, no face has three tetrahedra
pub none_thrice : (mesh : Mesh) (groups : List (List Face)) → AreOf mesh groups → None ≡ option_map (first_tets 3) (find has_three groups) → (corners : List ℕ) → IsThrice mesh corners → ⊥
none_thrice mesh groups g e corners t =
    let many : 3 ≤ length (faces_at mesh corners) = omega (arith, t.thrice, owner_count mesh corners) in
    let r = group_at mesh groups corners g (omega arith) in
    found_none has_three groups r.0 (from_none (first_tets 3) (find has_three groups) e) r.1
    (le-leb 3 (length r.0) (omega (arith, many, ap length r.3)))

-- the first group of three faces is that of the least face that three tetrahedra have
pub least_thrice : (mesh : Mesh) (groups : List (List Face)) (tets : List ℕ) → AreOf mesh groups → Some tets ≡ option_map (first_tets 3) (find has_three groups) → AreThrice mesh tets
least_thrice mesh groups tets g e =
    let m = from_map (first_tets 3) (find has_three groups) tets e in
    let f = found_first is_total first_corners has_three groups m.0 g.rising m.1 in
    let whole : IsWhole mesh m.0 = All-contains (IsWhole mesh) groups m.0 g.each f.0 in
    let many : 3 ≤ length m.0 = leb-true 3 (length m.0) f.1 in
    record {
      corners = first_corners m.0;
      least = record {
        holds = record { thrice = omega (arith, many, ap length whole.whole, owner_count mesh (first_corners m.0)) };
        least = λ others t before.
            let more : 3 ≤ length (faces_at mesh others) = omega (arith, t.thrice, owner_count mesh others) in
            let r = group_at mesh groups others g (omega arith) in
            f.2 r.0 r.1 (le-leb 3 (length r.0) (omega (arith, more, ap length r.3))) (subst (λ c. node_order c (first_corners m.0) ≡ Less) (sym r.2) before);
      };
      first_three = m.2 ∙ ap (λ l. take 3 (map (λ f. f.tet) l)) whole.whole;
    }

-- two faces in the same turn
record AreTwo (group : List Face) : Type 0 where
  first : Face
  second : Face
  two : group ≡ first ∷ second ∷ []
  same : have_same_turn first.turn second.turn ≡ true

two_from_test : (group : List Face) → are_two_alike group ≡ true → AreTwo group
two_from_test [] e = cc
two_from_test (f ∷ []) e = cc
two_from_test (f ∷ g ∷ []) e = record { first = f; second = g; two = refl; same = e }
two_from_test (f ∷ g ∷ h ∷ rest) e = cc

test_from_same : (mesh : Mesh) (corners : List ℕ) (group : List Face) → group ≡ faces_at mesh corners → IsSame mesh corners → are_two_alike group ≡ true
test_from_same mesh corners group e s = ap are_two_alike (e ∙ s.two) ∙ s.same

some_from_same : (mesh : Mesh) (corners : List ℕ) → IsSame mesh corners → 0 < length (faces_at mesh corners)
some_from_same mesh corners s = subst (λ l. 0 < length l) (sym s.two) (omega arith)

none_same : (mesh : Mesh) (groups : List (List Face)) → AreOf mesh groups → None ≡ option_map (first_tets 2) (find are_two_alike groups) → (corners : List ℕ) → IsSame mesh corners → ⊥
none_same mesh groups g e corners s =
    let r = group_at mesh groups corners g (some_from_same mesh corners s) in
    found_none are_two_alike groups r.0 (from_none (first_tets 2) (find are_two_alike groups) e) r.1
    (test_from_same mesh corners r.0 r.3 s)

-- the first group of two faces in the same turn is that of the least such face
pub least_same : (mesh : Mesh) (groups : List (List Face)) (tets : List ℕ) → AreOf mesh groups → ((corners : List ℕ) → IsThrice mesh corners → ⊥) → Some tets ≡ option_map (first_tets 2) (find are_two_alike groups) → AreSame mesh tets
least_same mesh groups tets g none e =
    let m = from_map (first_tets 2) (find are_two_alike groups) tets e in
    let f = found_first is_total first_corners are_two_alike groups m.0 g.rising m.1 in
    let whole : IsWhole mesh m.0 = All-contains (IsWhole mesh) groups m.0 g.each f.0 in
    let t = two_from_test m.0 f.1 in
    record {
      corners = first_corners m.0;
      none_thrice = none;
      least = record {
        holds = record { first = t.first; second = t.second; two = sym whole.whole ∙ t.two; same = t.same };
        least = λ others s before.
            let r = group_at mesh groups others g (some_from_same mesh others s) in
            f.2 r.0 r.1 (test_from_same mesh others r.0 r.3 s) (subst (λ c. node_order c (first_corners m.0) ≡ Less) (sym r.2) before);
      };
      both = m.2 ∙ ap (first_tets 2) t.two ∙ sym (ap (map (λ f. f.tet)) (sym whole.whole ∙ t.two));
    }

-- where no group has three faces, and none two in the same turn, so it is for the faces of the mesh
pub conforming : (mesh : Mesh) (groups : List (List Face)) → AreOf mesh groups → None ≡ option_map (first_tets 3) (find has_three groups) → None ≡ option_map (first_tets 2) (find are_two_alike groups) → IsConforming mesh
conforming mesh groups g e f = record { none_thrice = none_thrice mesh groups g e; none_same = none_same mesh groups g f }

-- the groups of one face are those of the faces that one tetrahedron has
pub singles : (mesh : Mesh) (groups : List (List Face)) (triangles : List (List ℕ)) → AreOf mesh groups → triangles ≡ map first_corners (filter has_one groups) → IsSortedListOf node_order (IsBoundaryFace mesh) triangles
singles mesh groups triangles g e =
    subst (IsSortedListOf node_order (IsBoundaryFace mesh)) (sym e)
    (record {
      sorted = sorted_keys-filter node_order first_corners has_one groups g.rising;
      each = All-map (IsBoundaryFace mesh) first_corners (filter has_one groups) (λ k d l. single k d l);
      all = λ corners s.
          let one : length (faces_at mesh corners) ≡ 1 = sym (owner_count mesh corners) ∙ s.once in
          let r = group_at mesh groups corners g (omega arith) in
          subst (Contains (map first_corners (filter has_one groups))) r.2
          (Contains-map first_corners (filter has_one groups) r.0
          (Contains-filter has_one groups r.0 (eq-eqb (length r.0) 1 (ap length r.3 ∙ one)) r.1));
    })
  where
    single : All (λ group. IsBoundaryFace mesh (first_corners group)) (filter has_one groups)
    single k d l =
        let group = get_or (filter has_one groups) k d in
        let there = Contains-from_filter has_one groups group (Contains-get_or (filter has_one groups) k d l) in
        let whole : IsWhole mesh group = All-contains (IsWhole mesh) groups group g.each there.0 in
        record { once = owner_count mesh (first_corners group) ∙ ap length (sym whole.whole) ∙ eqb-true (length group) 1 there.1 }

-- what holds of the corners of all faces holds of those of the groups of one face
pub singles_keep : (P : List ℕ → Type 0) (mesh : Mesh) (groups : List (List Face)) (triangles : List (List ℕ)) → AreOf mesh groups → triangles ≡ map first_corners (filter has_one groups) → ((corners : List ℕ) → All (λ f. P f.corners) (faces_at mesh corners)) → All P triangles
singles_keep P mesh groups triangles g e h =
    subst (All P) (sym e)
    (All-map P first_corners (filter has_one groups)
    (All-filter has_one (λ group. P (first_corners group)) groups
    (λ k d l. let w = g.each k d l in let group = get_or groups k d in first group w.some (All-same (λ f. P f.corners) group (faces_at mesh (first_corners group)) w.whole (h (first_corners group))))))
  where
    first : (group : List Face) → 0 < length group → All (λ f. P f.corners) group → P (first_corners group)
    first [] l h = absurd (omega arith)
    first (f ∷ fs) l h = All-head (λ f. P f.corners) f fs h
