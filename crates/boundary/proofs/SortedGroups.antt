-- The groups of sorted faces: each is all the faces with its corners, and their corners rise.
use Rattle.std.proofs.Common.{◌≡◌, ◌∙◌, ℕ, zero, suc, ◌<◌, ◌≤◌, true, false, cond, List, [], ◌∷◌, inl, inr, map, length, get_or, ap, sym, refl, subst, arith}
use Rattle.std.specs.List.{All, Contains, filter}
use Rattle.std.specs.List.Sorted.{IsSortedByKey, IsStrictlySortedBy}
use Rattle.std.specs.declared.cmp.Ordering.TheVariants.{Less}
use Rattle.std.specs.Ordering.{is_lt}
use Rattle.std.proofs.lemmas.Bool.{cases_Bool}
use Rattle.std.proofs.lemmas.List.Elements.{All-nil, All-cons, All-head, All-tail, All-same, All-filter, All-contains, All-weaker}
use Rattle.std.proofs.lemmas.List.Sorted.{sorted_far, ranks_by}
use Rattle.list_laws.proofs.Elements.{All-map_back}
use Rattle.list_laws.proofs.Membership.{Contains-here, Contains-later}
use Rattle.list_laws.proofs.StrictlySorted.{first_before, not_before_itself, sorted_cons, sorted_nil}
use Rattle.boundary.specs.declared.faces.Face.{Face}
use Rattle.boundary.specs.Calls.Groups.{first_corners, groups_of, put_before}
use Rattle.boundary.specs.Faces.{corners_of, has_corners, node_order}
use Rattle.boundary.proofs.Order.{comes_before, differs, is_total, same_nodes, same_test}

-- a group is all the faces that have its corners
pub record IsGroup (faces : List Face) (group : List Face) : Type 0 where
  pub some : 0 < length group
  pub whole : group ≡ filter (has_corners (first_corners group)) faces

-- each group is whole, their corners rise, and each face's corners are those of a group
pub record AreGroups (faces : List Face) (groups : List (List Face)) : Type 0 where
  pub each : All (IsGroup faces) groups
  pub rising : IsStrictlySortedBy node_order (map first_corners groups)
  pub all : (corners : List ℕ) → 0 < length (filter (has_corners corners) faces) → Contains (map first_corners groups) corners

-- no face is before one that stands earlier
abbrev Rises : List Face → Type 0
Rises [] = Unit {0}
Rises (f ∷ fs) = All (λ g. is_lt (node_order g.corners f.corners) ≡ false) fs × Rises fs

rises : (faces : List Face) → ((i j : ℕ) (d : Face) → i ≤ j → j < length faces → is_lt (node_order (get_or faces j d).corners (get_or faces i d).corners) ≡ false) → Rises faces
rises [] h = tt
rises (f ∷ fs) h =
    (λ k d l. h zero (suc k) d (omega arith) (omega arith), rises fs (λ i j d l b. h (suc i) (suc j) d (omega arith) (omega arith)))

kept : (f : Face) (fs : List Face) (corners : List ℕ) → has_corners corners f ≡ true → filter (has_corners corners) (f ∷ fs) ≡ f ∷ filter (has_corners corners) fs
kept f fs corners e = ap (λ b. cond b (f ∷ filter (has_corners corners) fs) (filter (has_corners corners) fs)) e

left_out : (f : Face) (fs : List Face) (corners : List ℕ) → has_corners corners f ≡ false → filter (has_corners corners) (f ∷ fs) ≡ filter (has_corners corners) fs
left_out f fs corners e = ap (λ b. cond b (f ∷ filter (has_corners corners) fs) (filter (has_corners corners) fs)) e

-- groups with later corners stay whole with one face more
others_stay : (f : Face) (fs : List Face) (groups : List (List Face)) → All (IsGroup fs) groups → All (λ c. node_order f.corners c ≡ Less) (map first_corners groups) → All (IsGroup (f ∷ fs)) groups
others_stay f fs groups each later = λ k d l.
    let group = get_or groups k d in
    let old : IsGroup fs group = each k d l in
    let less : node_order f.corners (first_corners group) ≡ Less = All-map_back (λ c. node_order f.corners c ≡ Less) first_corners groups later k d l in
    record {
      some = old.some;
      whole = old.whole ∙ sym (left_out f fs (first_corners group) (differs f.corners (first_corners group) less));
    }

-- the corners of one face more are those of a group, where the first group has its corners
all_with : (f : Face) (fs : List Face) (corners : List (List ℕ)) → ((c : List ℕ) → 0 < length (filter (has_corners c) fs) → Contains (f.corners ∷ corners) c) → (c : List ℕ) → 0 < length (filter (has_corners c) (f ∷ fs)) → Contains (f.corners ∷ corners) c
all_with f fs corners old c h =
    elim (cases_Bool (has_corners c f)) [
      | inl t ↦ subst (Contains (f.corners ∷ corners)) (same_nodes f.corners c t) (Contains-here f.corners corners)
      | inr n ↦ old c (subst (λ l. 0 < length l) (left_out f fs c n) h)
    ]

-- a face whose corners are before those of all groups is a group alone
alone : (f : Face) (fs : List Face) (groups : List (List Face)) → AreGroups fs groups → All (λ c. node_order f.corners c ≡ Less) (map first_corners groups) → AreGroups (f ∷ fs) ((f ∷ []) ∷ groups)
alone f fs groups old later = record {
  each =
      All-cons (IsGroup (f ∷ fs)) (f ∷ []) groups
      (record {
        some = omega arith;
        whole = ap (λ l. f ∷ l) (sym (none (filter (has_corners f.corners) fs) (λ h. not_before_itself is_total f.corners (All-contains (λ c. node_order f.corners c ≡ Less) (map first_corners groups) f.corners later (old.all f.corners h))))) ∙ sym (kept f fs f.corners (same_test f.corners f.corners refl));
      })
      (others_stay f fs groups old.each later);
  rising = sorted_cons node_order f.corners (map first_corners groups) later old.rising;
  all = all_with f fs (map first_corners groups) (λ c h. Contains-later f.corners (map first_corners groups) c (old.all c h));
}
  where
    none : (l : List Face) → (0 < length l → ⊥) → l ≡ []
    none [] h = refl
    none (x ∷ xs) h = absurd (h (omega arith))

-- a face with the corners of the first group joins it
joins : (f g : Face) (gs fs : List Face) (groups : List (List Face)) → AreGroups fs ((g ∷ gs) ∷ groups) → has_corners f.corners g ≡ true → AreGroups (f ∷ fs) ((f ∷ g ∷ gs) ∷ groups)
joins f g gs fs groups old e =
    let same : g.corners ≡ f.corners = same_nodes g.corners f.corners e in
    let rising : IsStrictlySortedBy node_order (f.corners ∷ map first_corners groups) = subst (λ c. IsStrictlySortedBy node_order (c ∷ map first_corners groups)) same old.rising in
    let first : IsGroup fs (g ∷ gs) = All-head (IsGroup fs) (g ∷ gs) groups old.each in
    record {
      each =
          All-cons (IsGroup (f ∷ fs)) (f ∷ g ∷ gs) groups
          (record {
            some = omega arith;
            whole = ap (λ l. f ∷ l) (first.whole ∙ ap (λ c. filter (has_corners c) fs) same) ∙ sym (kept f fs f.corners (same_test f.corners f.corners refl));
          })
          (others_stay f fs groups (All-tail (IsGroup fs) (g ∷ gs) groups old.each) (first_before node_order f.corners (map first_corners groups) rising));
      rising = rising;
      all = all_with f fs (map first_corners groups) (λ c h. subst (λ x. Contains (x ∷ map first_corners groups) c) same (old.all c h));
    }

-- one face more, which is after none
put_before_groups : (f : Face) (fs : List Face) (groups : List (List Face)) → All (λ g. is_lt (node_order g.corners f.corners) ≡ false) fs → AreGroups fs groups → AreGroups (f ∷ fs) (put_before f groups)
put_before_groups f fs [] up old = alone f fs [] old (All-nil (λ c. node_order f.corners c ≡ Less))
put_before_groups f fs ([] ∷ groups) up old = absurd (let head : IsGroup fs [] = All-head (IsGroup fs) [] groups old.each in omega (arith, head.some))
put_before_groups f fs ((g ∷ gs) ∷ groups) up old =
    elim (cases_Bool (has_corners f.corners g)) [
      | inl t ↦ subst (λ l. AreGroups (f ∷ fs) l) (sym (ap (λ b. cond b ((f ∷ g ∷ gs) ∷ groups) ((f ∷ []) ∷ (g ∷ gs) ∷ groups)) t)) (joins f g gs fs groups old t)
      | inr n ↦
          let head : IsGroup fs (g ∷ gs) = All-head (IsGroup fs) (g ∷ gs) groups old.each in
          let kept_up : All (λ h. is_lt (node_order h.corners f.corners) ≡ false) (g ∷ gs) =
          All-same (λ h. is_lt (node_order h.corners f.corners) ≡ false) (g ∷ gs) (filter (has_corners g.corners) fs) head.whole
          (All-filter (has_corners g.corners) (λ h. is_lt (node_order h.corners f.corners) ≡ false) fs up) in
          let less : node_order f.corners g.corners ≡ Less = comes_before f.corners g.corners (All-head (λ h. is_lt (node_order h.corners f.corners) ≡ false) g gs kept_up) n in
          let later : All (λ c. node_order f.corners c ≡ Less) (g.corners ∷ map first_corners groups) =
          All-cons (λ c. node_order f.corners c ≡ Less) g.corners (map first_corners groups) less
          (All-weaker (λ c. node_order g.corners c ≡ Less) (λ c. node_order f.corners c ≡ Less) (λ c h. is_total.trans f.corners g.corners c less h) (map first_corners groups)
          (first_before node_order g.corners (map first_corners groups) old.rising)) in
          subst (λ l. AreGroups (f ∷ fs) l) (sym (ap (λ b. cond b ((f ∷ g ∷ gs) ∷ groups) ((f ∷ []) ∷ (g ∷ gs) ∷ groups)) n)) (alone f fs ((g ∷ gs) ∷ groups) old later)
    ]

groups_rise : (faces : List Face) → Rises faces → AreGroups faces (groups_of faces)
groups_rise [] up = record {
  each = All-nil (IsGroup []);
  rising = sorted_nil node_order;
  all = λ c h. absurd (omega arith);
}
groups_rise (f ∷ fs) up = put_before_groups f fs (groups_of fs) up.0 (groups_rise fs up.1)

pub sorted_groups : (faces : List Face) → IsSortedByKey corners_of node_order faces → AreGroups faces (groups_of faces)
sorted_groups faces up =
    groups_rise faces
    (rises faces (sorted_far (λ x y. is_lt (node_order x.corners y.corners)) (ranks_by is_total corners_of) faces up))
