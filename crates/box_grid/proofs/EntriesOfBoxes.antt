-- What the numbers of an entry say of its box.
use Rattle.std.proofs.Common.{◌≡◌, ◌∙◌, refl, ℕ, ◌<◌, ◌&&◌, Bool, true, false, ℤ, pos, neg_ℤ, ◌+ℤ◌, ◌-ℤ◌, ◌≤ℤ◌, unsigned_abs, if◌then◌else◌, List, [], length, get_or, ap, sym, arith}
use Rattle.std.specs.Prelude.{IsTrue, int_le, nat_le}
use Rattle.std.specs.List.{range_with_len, All}
use Rattle.std.proofs.lemmas.Bool.{and_from, and_parts}
use Rattle.std.proofs.lemmas.Int.{ints}
use Rattle.std.proofs.lemmas.List.FromFn.{length-range_with_len, get_or-range_with_len}
use Rattle.std.proofs.lemmas.List.Elements.{All-map}
use Rattle.list_laws.proofs.Membership.{All-flat_map}
use Rattle.space3.specs.Boxes.{are_within}
use Rattle.space3.specs.declared.boxes.BoundingBox.{BoundingBox}
use Rattle.box_grid.specs.declared.entries.Entry.{Entry}
use Rattle.box_grid.specs.declared.search.Query.{Query}
use Rattle.box_grid.specs.declared.sizes.Level.{Level}
use Rattle.box_grid.specs.Near.{box_at}
use Rattle.box_grid.specs.Calls.Cells.{bound_of, cells_over, entries_in, entries_of, entries_of_boxes, entry_at, entry_item, entry_key, has, is_below, is_sought, keys_over, short_item, short_key, touches}
use Rattle.box_grid.proofs.WideBoxes.{touching_corners}

key_back : (key : ℕ) → unsigned_abs (short_key key +ℤ pos 2147483648) ≡ key
key_back key = omega (arith, ints)

item_back : (item : ℕ) → unsigned_abs (pos 2147483647 -ℤ short_item item) ≡ item
item_back item = omega (arith, ints)

pub entry_key_is : (key item : ℕ) (b : BoundingBox) → entry_key (entry_at key item b) ≡ key
entry_key_is key item b = key_back key

pub entry_item_is : (key item : ℕ) (b : BoundingBox) → entry_item (entry_at key item b) ≡ item
entry_item_is key item b = item_back item

-- an entry of the box at its position
pub record IsOfBoxes (boxes : List BoundingBox) (e : Entry) : Type 0 where
  pub below : entry_item e < length boxes
  pub is : e ≡ entry_at (entry_key e) (entry_item e) (box_at boxes (entry_item e))

of_boxes : (boxes : List BoundingBox) (key i : ℕ) → i < length boxes → IsOfBoxes boxes (entry_at key i (box_at boxes i))
of_boxes boxes key i l =
    let e = entry_at key i (box_at boxes i) in
    record {
      below = omega (arith, item_back i, l);
      is = λ t. entry_at (sym (key_back key) t) (sym (item_back i) t) (box_at boxes (sym (item_back i) t));
    }

-- each entry is of the box at its position
pub entries_are_of_boxes : (level : Level) (boxes : List BoundingBox) → All (IsOfBoxes boxes) (entries_of_boxes level boxes)
entries_are_of_boxes level boxes =
    All-flat_map (IsOfBoxes boxes) (λ i. entries_in level (box_at boxes i) i) (range_with_len 0 (length boxes))
    (λ k d h.
    let i = get_or (range_with_len 0 (length boxes)) k d in
    let low : i < length boxes = omega (arith, get_or-range_with_len 0 (length boxes) k d (omega (arith, length-range_with_len 0 (length boxes))), length-range_with_len 0 (length boxes)) in
    where_had (has level (box_at boxes i)) (entries_of (cells_over level.side (box_at boxes i)) i (box_at boxes i))
    (All-map (IsOfBoxes boxes) (λ key. entry_at key i (box_at boxes i)) (keys_over (cells_over level.side (box_at boxes i))) (λ j e m. of_boxes boxes _ i low)))
  where
    where_had : (t : Bool) (es : List Entry) → All (IsOfBoxes boxes) es → All (IsOfBoxes boxes) (if t then es else [])
    where_had true es h = h
    where_had false es h = λ k d m. absurd (omega (arith, m))

-- ---- what is sought
keys_agree : (key : ℕ) → int_le (short_key key) (short_key (unsigned_abs (short_key key +ℤ pos 2147483648))) ≡ true
keys_agree key = grind (arith, ints)

items_compared : (from i : ℕ) → int_le (short_item i) (short_item from) ≡ nat_le from i
items_compared from i = grind (arith, ints)

opposite : (a b : ℤ) → int_le (neg_ℤ b) (neg_ℤ a) ≡ int_le a b
opposite a b = grind (arith, ints)

and_true : (a b : Bool) → b ≡ true → (a && b) ≡ a
and_true true b h = h
and_true false b h = refl

-- an entry is sought where its position is and its box touches
pub sought_is : (query : Query) (key i : ℕ) (b : BoundingBox) → is_sought query (entry_at key i b) ≡ (nat_le query.from i && are_within 0 query.reached b)
sought_is query key i b =
    and_true _ _ (keys_agree key)
    ∙ (λ t. items_compared query.from i t && ((int_le b.least.x query.reached.greatest.x && int_le b.least.y query.reached.greatest.y && int_le b.least.z query.reached.greatest.z)
    && (opposite query.reached.least.x b.greatest.x t && opposite query.reached.least.y b.greatest.y t && opposite query.reached.least.z b.greatest.z t)))
    ∙ ap (λ c. nat_le query.from i && c) (touching_corners query.reached b)

pub sought_touches : (query : Query) (boxes : List BoundingBox) (e : Entry) → IsOfBoxes boxes e → is_sought query e ≡ touches query boxes (entry_item e)
sought_touches query boxes e h =
    ap (is_sought query) h.is ∙ sought_is query (entry_key e) (entry_item e) (box_at boxes (entry_item e))

-- what is below the bound of another key is sought, too
pub below_is_sought : (query : Query) (key : ℕ) (e : Entry) → IsTrue (is_below (bound_of query key) e) → IsTrue (is_sought query e)
below_is_sought query key e t =
    let parts = and_parts _ _ t in
    and_from _ _ parts.0 (own e.key)
  where
    tested : (a b : ℤ) → a ≤ℤ b → int_le a b ≡ true
    tested a b h = grind (arith, ints)

    own : (k : ℤ) → int_le k (short_key (unsigned_abs (k +ℤ pos 2147483648))) ≡ true
    own k = tested k (short_key (unsigned_abs (k +ℤ pos 2147483648))) (omega (arith, ints))
