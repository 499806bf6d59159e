-- Entries that are made of sorted numbers are sorted by their keys.
use Rattle.std.proofs.Common.{◌≡◌, ◌∙◌, refl, ℕ, zero, ◌/◌, ◌%◌, ◌<◌, ◌≤◌, Bool, true, false, if◌then◌else◌, List, [], ◌∷◌, ◌++◌, length, get_or, map, ap, sym, subst, arith}
use Rattle.std.specs.List.{All, flat_map, range_with_len}
use Rattle.std.specs.List.Sorted.{IsNonDecreasingBy, IsPermutation}
use Rattle.std.proofs.Math.ListN.{get_or-map}
use Rattle.std.proofs.lemmas.Nat.{div-mul-add, mod-mul-add}
use Rattle.std.proofs.lemmas.List.{length-map, map-append}
use Rattle.std.proofs.lemmas.List.Elements.{All-map, All-tail, All-weaker}
use Rattle.std.proofs.lemmas.List.Sorted.{All-permutation, IsNonDecreasingBy-from_default, IsPermutation-map}
use Rattle.space3.specs.declared.boxes.BoundingBox.{BoundingBox}
use Rattle.box_grid.specs.declared.entries.Entry.{Entry}
use Rattle.box_grid.specs.declared.sizes.Level.{Level}
use Rattle.box_grid.specs.Near.{box_at}
use Rattle.box_grid.specs.Calls.Cells.{IsSortedForm, cells_over, entries_in, entries_of_boxes, entry_at, entry_item, entry_key, entry_of, has, keys_over, number, numbers_in, numbers_of_boxes}
use Rattle.box_grid.proofs.Divisions.{div_keeps_order}
use Rattle.box_grid.proofs.EntriesOfBoxes.{IsOfBoxes, entries_are_of_boxes, entry_item_is, entry_key_is}

abbrev number_of : Entry → ℕ
number_of e = number (entry_key e) (entry_item e)

-- ---- the numbers are those of the entries
numbers_of_keys : (keys : List ℕ) (item : ℕ) (b : BoundingBox) → map (λ key. number key item) keys ≡ map number_of (map (λ key. entry_at key item b) keys)
numbers_of_keys [] item b = refl
numbers_of_keys (key ∷ keys) item b = λ t. number (sym (entry_key_is key item b) t) (sym (entry_item_is key item b) t) ∷ numbers_of_keys keys item b t

numbers_of_box : (level : Level) (b : BoundingBox) (item : ℕ) → numbers_in level b item ≡ map number_of (entries_in level b item)
numbers_of_box level b item = where_had (has level b) _ _ (numbers_of_keys (keys_over (cells_over level.side b)) item b)
  where
    where_had : (t : Bool) (ns : List ℕ) (es : List Entry) → ns ≡ map number_of es → (if t then ns else []) ≡ map number_of (if t then es else [])
    where_had true ns es e = e
    where_had false ns es e = refl

map_of_flat : (f : ℕ → List ℕ) (g : ℕ → List Entry) → ((i : ℕ) → f i ≡ map number_of (g i)) → (xs : List ℕ) → flat_map f xs ≡ map number_of (flat_map g xs)
map_of_flat f g e [] = refl
map_of_flat f g e (x ∷ xs) = (λ t. e x t ++ map_of_flat f g e xs t) ∙ sym (map-append number_of (g x) (flat_map g xs))

numbers_are : (level : Level) (boxes : List BoundingBox) → numbers_of_boxes level boxes ≡ map number_of (entries_of_boxes level boxes)
numbers_are level boxes =
    map_of_flat (λ i. numbers_in level (box_at boxes i) i) (λ i. entries_in level (box_at boxes i) i) (λ i. numbers_of_box level (box_at boxes i) i) (range_with_len 0 (length boxes))

-- ---- an entry and back
back : (boxes : List BoundingBox) (e : Entry) → length boxes ≤ 4294967296 → IsOfBoxes boxes e → entry_of boxes (number_of e) ≡ e
back boxes e few h =
    let small : entry_item e < 4294967296 = omega (arith, few, h.below) in
    (λ t. entry_at (div-mul-add (entry_key e) 4294967296 (entry_item e) small t) (mod-mul-add (entry_key e) 4294967296 (entry_item e) small t) (box_at boxes (mod-mul-add (entry_key e) 4294967296 (entry_item e) small t)))
    ∙ sym h.is

all_back : (boxes : List BoundingBox) (es : List Entry) → length boxes ≤ 4294967296 → All (IsOfBoxes boxes) es → map (entry_of boxes) (map number_of es) ≡ es
all_back boxes [] few h = refl
all_back boxes (e ∷ es) few h = λ t. back boxes e few (h zero e (omega arith)) t ∷ all_back boxes es few (All-tail (IsOfBoxes boxes) e es h) t

-- the numbers' positions have boxes, in any order
pub positions_there : (level : Level) (boxes : List BoundingBox) (ns ms : List ℕ) → length boxes ≤ 4294967296 → ns ≡ numbers_of_boxes level boxes → IsPermutation ns ms → All (λ n. n % 4294967296 < length boxes) ms
positions_there level boxes ns ms few is moved =
    All-permutation (λ n. n % 4294967296 < length boxes) ns ms moved
    (subst (All (λ n. n % 4294967296 < length boxes)) (sym (is ∙ numbers_are level boxes))
    (All-map (λ n. n % 4294967296 < length boxes) number_of (entries_of_boxes level boxes)
    (All-weaker (IsOfBoxes boxes) (λ e. number_of e % 4294967296 < length boxes) there (entries_of_boxes level boxes) (entries_are_of_boxes level boxes))))
  where
    there : (e : Entry) → IsOfBoxes boxes e → number_of e % 4294967296 < length boxes
    there e h = omega (arith, mod-mul-add (entry_key e) 4294967296 (entry_item e) (omega (arith, few, h.below)), h.below)

keys_rise : (boxes : List BoundingBox) (ns : List ℕ) → IsNonDecreasingBy (λ (x : ℕ). x) ns → IsNonDecreasingBy entry_key (map (entry_of boxes) ns)
keys_rise boxes ns h =
    IsNonDecreasingBy-from_default entry_key (map (entry_of boxes) ns) (entry_of boxes 0)
    (λ i j before l.
    rw (get_or-map (entry_of boxes) ns i 0, get_or-map (entry_of boxes) ns j 0, key_of_entry (get_or ns i 0), key_of_entry (get_or ns j 0))
    (div_keeps_order (get_or ns i 0) (get_or ns j 0) 4294967296 (omega arith) (h i j 0 before (omega (arith, l, length-map ns (entry_of boxes))))))
  where
    key_of_entry : (n : ℕ) → entry_key (entry_of boxes n) ≡ n / 4294967296
    key_of_entry n = entry_key_is (n / 4294967296) (n % 4294967296) (box_at boxes (n % 4294967296))

pub sorted_form : (level : Level) (boxes : List BoundingBox) (sorted : List Entry) (ns ms : List ℕ) → length boxes ≤ 4294967296 → ns ≡ numbers_of_boxes level boxes → IsPermutation ns ms → IsNonDecreasingBy (λ (x : ℕ). x) ms → sorted ≡ map (entry_of boxes) ms → IsSortedForm (entries_of_boxes level boxes) sorted
sorted_form level boxes sorted ns ms few numbers moved rises is =
    let es = entries_of_boxes level boxes in
    subst (IsSortedForm es) (sym is)
    (record {
      rises = keys_rise boxes ms rises;
      moved = subst (λ (xs : List Entry). IsPermutation xs (map (entry_of boxes) ms)) (ap (map (entry_of boxes)) (numbers ∙ numbers_are level boxes) ∙ all_back boxes es few (entries_are_of_boxes level boxes)) (IsPermutation-map (entry_of boxes) ns ms moved);
    })
