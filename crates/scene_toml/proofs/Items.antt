-- The items of an array, one after another.
use Rattle.std.proofs.Common.{◌≡◌, ◌∙◌, ℕ, ◌+◌, ◌<◌, ℤ, pos, true, List, [], ◌∷◌, ◌++◌, length, drop, get_or, Option, Some, Ok, Err, refl, ap, sym, arith, add-one}
use Rattle.std.proofs.Math.Seq.{drop-cons}
use Rattle.toml.specs.Data.{Data, array, table, Items, item, Members, as_array, as_table}
use Rattle.toml.specs.View.{items_view, view}
use Rattle.toml.specs.declared.value.Value.{Value}
use Rattle.scene_toml.specs.declared.keys.Section.TheVariants.{Top}
use Rattle.scene_toml.specs.declared.parts.PartKeys.{PartKeys}
use Rattle.scene_toml.specs.declared.refusal.SceneErr.{SceneErr}
use Rattle.scene_toml.specs.Parts.{are_tables, count_of, part, part_of, parts_from, parts_of}
use Rattle.scene_toml.specs.Values.{and_then, in_range}

items_view-drop : (vs : List Value) (i : ℕ) (v : Value) → i < length vs → items_view (drop i vs) ≡ item (view (get_or vs i v)) (items_view (drop (i + 1) vs))
items_view-drop vs i v h = ap items_view (drop-cons vs i v h) ∙ ap (λ k. item (view (get_or vs i v)) (items_view (drop k vs))) (sym (add-one i))

pub count_of-items : (vs : List Value) → count_of (items_view vs) ≡ length vs
count_of-items [] = refl
count_of-items (v ∷ vs) = omega (arith, count_of-items vs)

pub is_table : (d : Data) (inside : Members) → Some inside ≡ as_table d → d ≡ table inside
is_table (table other) inside e = cc
is_table _ inside e = absurd cc

is_array : (d : Data) (items : Items) → Some items ≡ as_array d → d ≡ array items
is_array (array other) items e = cc
is_array _ items e = absurd cc

-- one item on
pub next_part : (vs : List Value) (i : ℕ) (v : Value) (earlier : List PartKeys) → i < length vs → v ≡ get_or vs i v
    → parts_from earlier (items_view (drop i vs)) ≡ and_then (part_of earlier (view v)) (λ part. parts_from (earlier ++ part ∷ []) (items_view (drop (i + 1) vs)))
next_part vs i v earlier l is =
    ap (parts_from earlier) (items_view-drop vs i v l ∙ ap (λ w. item (view w) (items_view (drop (i + 1) vs))) (sym is))

-- an array of tables, not too many
pub parts_of-array : (value : Option Data) (d : Data) (items : Items) (n : ℤ) → value ≡ Some d → Some items ≡ as_array d → true ≡ are_tables items
    → in_range Top part (pos (count_of items)) ≡ Ok n → parts_of value ≡ parts_from [] items
parts_of-array value d items n found shown tables few = rw (found, is_array d items shown, sym tables, few) refl

pub parts_of-many : (value : Option Data) (d : Data) (items : Items) (fault : SceneErr) → value ≡ Some d → Some items ≡ as_array d → true ≡ are_tables items
    → in_range Top part (pos (count_of items)) ≡ Err fault → parts_of value ≡ Err fault
parts_of-many value d items fault found shown tables many = rw (found, is_array d items shown, sym tables, many) refl
