use Rattle.std.proofs.Common.{◌≡◌, Some, Ok, pos, sym, subst, rules}
use Rattle.toml.specs.Data.{get_member}
use Rattle.toml.specs.View.{items_view, table_view, view}
use Rattle.scene_toml.specs.declared.keys.Section.TheVariants.{Top}
use Rattle.scene_toml.specs.Gives.{Fails, Gives}
use Rattle.scene_toml.specs.Parts.{count_of, part}
use Rattle.scene_toml.specs.Values.{in_range}
use Rattle.scene_toml.proofs.Items.{count_of-items, parts_of-array, parts_of-many}
use Rattle.scene_toml.proofs.Steps.{gives_failure}
use Rattle.scene_toml.proofs.parts.parts_at.Goals as goal

pub returns-in_err-in_range : goal.returns-in_err-in_range
returns-in_err-in_range c =
    let found : get_member part.name (table_view c.args.table.now) ≡ Some (view c.in-Some.value.now) = subst (λ name. get_member name (table_view c.args.table.now) ≡ Some (view c.in-Some.value.now)) c.name.ensures c.in-Some.ensures.found in
    let items = items_view c.as_slice-items.result.now in
    let fails : Fails c.in_err-in_range.field-0.0 (in_range Top part (pos (count_of items))) = rw (count_of-items c.as_slice-items.result.now) (search rules) in
    gives_failure _ c.in_err-in_range.field-0.0 (in_range Top part (pos (count_of items))) _ c.from_residual-in_err-in_range.ensures.1 fails
    (λ fault e. parts_of-many _ _ items fault found (rw c.as_slice-items.ensures.value c.in-Some-as_array.ensures) c.if-not-are_tables.ensures e)

pub returns : goal.returns
returns c =
    let found : get_member part.name (table_view c.args.table.now) ≡ Some (view c.in-Some.value.now) = subst (λ name. get_member name (table_view c.args.table.now) ≡ Some (view c.in-Some.value.now)) c.name.ensures c.in-Some.ensures.found in
    let items = items_view c.as_slice-items.result.now in
    let few : in_range Top part (pos (count_of items)) ≡ Ok c.in_ok-in_range.field-0 = rw (count_of-items c.as_slice-items.result.now) (search rules) in
    subst (Gives c.parts_from.result) (sym (parts_of-array _ _ items c.in_ok-in_range.field-0 found (rw c.as_slice-items.ensures.value c.in-Some-as_array.ensures) c.if-not-are_tables.ensures few)) c.parts_from.ensures
