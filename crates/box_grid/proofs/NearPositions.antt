-- What touches in the cells of both levels is near, and all that is near is there.
use Rattle.std.proofs.Common.{◌≡◌, ◌∙◌, ℕ, ◌<◌, ◌&&◌, Bool, true, false, not, List, [], ◌++◌, length, ap, sym, subst, arith, inl, inr}
use Rattle.std.specs.Prelude.{IsTrue, filter, nat_le}
use Rattle.std.specs.List.{range_with_len, All, Contains}
use Rattle.std.proofs.lemmas.Bool.{and_parts, cases_Bool}
use Rattle.std.proofs.lemmas.List.Elements.{All-contains, All-weaker}
use Rattle.std.proofs.lemmas.List.FromFn.{get_or-range_with_len, length-range_with_len}
use Rattle.std.proofs.lemmas.List.Sorted.{All-permutation, Contains-permutation}
use Rattle.list_laws.proofs.Membership.{Contains-filter, Contains-from_filter, Contains-nil, Contains-range}
use Rattle.space3.specs.Boxes.{are_within}
use Rattle.space3.specs.declared.boxes.BoundingBox.{BoundingBox}
use Rattle.box_grid.specs.declared.cells.Cells.{Cells}
use Rattle.box_grid.specs.declared.entries.Entry.{Entry}
use Rattle.box_grid.specs.declared.search.Query.{Query}
use Rattle.box_grid.specs.declared.sizes.Level.{Level}
use Rattle.box_grid.specs.Near.{HasJust, LiesInTheBox, box_at, near_positions}
use Rattle.box_grid.specs.Calls.Buckets.{Bucketed, HasKeys, IsGrid, IsLevel, IsSought, level_of}
use Rattle.box_grid.specs.Calls.Cells.{LiesByTheBox, PassesBelow, cells_over, entries_of_boxes, entry_at, entry_item, has, is_great, is_sought, keys_over, touches, widened}
use Rattle.box_grid.proofs.CommonCells.{entry_of_touching_box}
use Rattle.box_grid.proofs.EntriesOfBoxes.{IsOfBoxes, entries_are_of_boxes, entry_item_is, entry_key_is, sought_is, sought_touches}
use Rattle.box_grid.proofs.WideBoxes.{widened_touches}

-- what is sought among a level's entries are positions of boxes that touch
sought_are_there : (level : Level) (query : Query) (boxes : List BoundingBox) (b : Bucketed) → IsLevel level boxes b →
    All (λ e. IsTrue (is_sought query e) → PassesBelow (length boxes) (touches query boxes) (entry_item e)) b.entries
sought_are_there level query boxes b l =
    All-permutation (λ e. IsTrue (is_sought query e) → PassesBelow (length boxes) (touches query boxes) (entry_item e)) (entries_of_boxes level boxes) b.entries l.entered
    (All-weaker (IsOfBoxes boxes) (λ e. IsTrue (is_sought query e) → PassesBelow (length boxes) (touches query boxes) (entry_item e))
    (λ e h t. record { below = h.below; passes = sym (sought_touches query boxes e h) ∙ t })
    (entries_of_boxes level boxes) (entries_are_of_boxes level boxes))

sought_is_there : (level : Level) (query : Query) (boxes : List BoundingBox) (b : Bucketed) (x : ℕ) → IsLevel level boxes b → IsSought query b.entries x → PassesBelow (length boxes) (touches query boxes) x
sought_is_there level query boxes b x l s =
    let P : Entry → Type 0 = λ e. IsTrue (is_sought query e) → PassesBelow (length boxes) (touches query boxes) (entry_item e) in
    subst (PassesBelow (length boxes) (touches query boxes)) s.item (All-contains P b.entries s.of (sought_are_there level query boxes b l) s.there s.sought)

-- cells and positions that are known to be others
pub keys_as : (query : Query) (entries : List Entry) (c cells : Cells) (old start found : List ℕ) → c ≡ cells → old ≡ start → HasKeys query entries (keys_over c) old found → HasKeys query entries (keys_over cells) start found
keys_as query entries c cells old start found e f h =
    subst (λ k. HasKeys query entries (keys_over k) start found) e
    (subst (λ ns. HasKeys query entries (keys_over c) ns found) f h)

-- a box that is searched for and is of a level comes up in that level
comes_up : (level : Level) (query : Query) (boxes : List BoundingBox) (b : Bucketed) (old found : List ℕ) (i : ℕ) → IsLevel level boxes b → All LiesInTheBox boxes → LiesByTheBox query.reached →
    HasKeys query b.entries (keys_over (cells_over level.side query.reached)) old found → i < length boxes → IsTrue (touches query boxes i) → has level (box_at boxes i) ≡ true → Contains found i
comes_up level query boxes b old found i l in_box h keys there touch had =
    let f = entry_of_touching_box level query.reached boxes i l.coarse h in_box there (and_parts (nat_le query.from i) (are_within 0 query.reached (box_at boxes i)) touch).1 had in
    let e = entry_at f.key i (box_at boxes i) in
    subst (Contains found) (entry_item_is f.key i (box_at boxes i))
    (keys.has e (Contains-permutation (entries_of_boxes level boxes) b.entries e l.entered f.there)
    (subst (Contains (keys_over (cells_over level.side query.reached))) (sym (entry_key_is f.key i (box_at boxes i))) f.of_cells)
    (sought_is query f.key i (box_at boxes i) ∙ touch))

-- what is asked for
abbrev pub query_of : BoundingBox → ℕ → Query
query_of reached from = record { reached = reached; from = from }

-- the positions of the boxes that touch the widened box
near_as_touching : (reach : ℕ) (around : BoundingBox) (from : ℕ) (boxes : List BoundingBox) → filter (touches (query_of (widened reach around) from) boxes) (range_with_len 0 (length boxes)) ≡ near_positions reach around from boxes
near_as_touching reach around from boxes =
    λ t. filter (λ i. nat_le from i && widened_touches reach around (box_at boxes i) t) (range_with_len 0 (length boxes))

-- the numbers below n that pass a test
just_those : (p : ℕ → Bool) (n : ℕ) (found : List ℕ) → ((x : ℕ) → Contains found x → PassesBelow n p x) → ((i : ℕ) → i < n → IsTrue (p i) → Contains found i) → HasJust (filter p (range_with_len 0 n)) found
just_those p n found pass there = record {
  each = λ x h.
      let r = Contains-from_filter p (range_with_len 0 n) x h in
      there x (All-contains (λ i. i < n) (range_with_len 0 n) x (below n) r.0) r.1;
  no_other = λ x h.
      let r = pass x h in
      Contains-filter p (range_with_len 0 n) x r.passes (Contains-range n x r.below);
}
  where
    below : (n : ℕ) → All (λ i. i < n) (range_with_len 0 n)
    below n k d l = omega (arith, get_or-range_with_len 0 n k d (omega (arith, length-range_with_len 0 n, l)), length-range_with_len 0 n, l)

-- all boxes in order
pub all_are_near : (reach : ℕ) (around reached : BoundingBox) (from : ℕ) (inner boxes : List BoundingBox) (old found : List ℕ) → reached ≡ widened reach around → inner ≡ boxes → old ≡ [] → found ≡ old ++ filter (touches (query_of reached from) inner) (range_with_len 0 (length inner)) → HasJust (near_positions reach around from boxes) found
all_are_near reach around reached from inner boxes old found e f none is =
    let same : found ≡ near_positions reach around from boxes =
    is
    ∙ ap (λ l. l ++ filter (touches (query_of reached from) inner) (range_with_len 0 (length inner))) none
    ∙ (λ t. filter (touches (query_of (e t) from) (f t)) (range_with_len 0 (length (f t))))
    ∙ near_as_touching reach around from boxes in
    record {
      each = λ x h. subst (λ (xs : List ℕ). Contains xs x) (sym same) h;
      no_other = λ x h. subst (λ (xs : List ℕ). Contains xs x) same h;
    }

-- the boxes of both levels in their cells
pub levels_are_near : (reach : ℕ) (around reached : BoundingBox) (from side great_side : ℕ) (boxes : List BoundingBox) (common great : Bucketed) (some found : List ℕ) → IsGrid boxes side common great_side great → LiesByTheBox reached → reached ≡ widened reach around →
    HasKeys (query_of reached from) common.entries (keys_over (cells_over side reached)) [] some → HasKeys (query_of reached from) great.entries (keys_over (cells_over great_side reached)) some found →
    HasJust (near_positions reach around from boxes) found
levels_are_near reach around reached from side great_side boxes common great some found grid h e in_common in_great =
    let first = level_of false side side in
    let second = level_of true side great_side in
    let query = query_of reached from in
    let n = length boxes in
    let p = touches query boxes in
    let pass : (x : ℕ) → Contains found x → PassesBelow n p x = λ x h.
    elim (in_great.only x h) [
      | inl before ↦ elim (in_common.only x before) [
        | inl none ↦ absurd (Contains-nil x none)
        | inr s ↦ sought_is_there first query boxes common x grid.common s
      ]
      | inr s ↦ sought_is_there second query boxes great x grid.great s
    ] in
    let there : (i : ℕ) → i < n → IsTrue (p i) → Contains found i = λ i below touch.
    elim (cases_Bool (is_great side (box_at boxes i))) [
      | inl t ↦ comes_up second query boxes great some found i grid.great grid.in_box h in_great below touch t
      | inr f ↦ in_great.kept i (comes_up first query boxes common [] some i grid.common grid.in_box h in_common below touch (ap not f))
    ] in
    subst (λ (xs : List ℕ). HasJust xs found)
    (ap (λ r. filter (touches (query_of r from) boxes) (range_with_len 0 n)) e ∙ near_as_touching reach around from boxes)
    (just_those p n found pass there)
