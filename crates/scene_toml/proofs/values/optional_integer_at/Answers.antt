use Rattle.std.proofs.Common.{◌≡◌, Some, w64, to_z, of_z, rules, subst}
use Rattle.toml.specs.Data.{get_member}
use Rattle.toml.specs.View.{table_view, view}
use Rattle.scene_toml.specs.Calls.{integer_at}
use Rattle.scene_toml.specs.Values.{integer_of}
use Rattle.scene_toml.proofs.Lookups.{optional_found, optional_refused}
use Rattle.scene_toml.proofs.Steps.{gives_failure}
use Rattle.scene_toml.proofs.values.optional_integer_at.Goals as goal

pub returns-in_err-integer_at-in-Some : goal.returns-in_err-integer_at-in-Some
returns-in_err-integer_at-in-Some c =
    let ms = table_view c.args.table.now in
    let found : get_member c.args.key.now.name ms ≡ Some (view c.in-Some.field-0.now) = subst (λ name. get_member name ms ≡ Some (view c.in-Some.field-0.now)) c.name.ensures c.in-Some.ensures.found in
    gives_failure _ c.in_err-integer_at-in-Some.field-0.0 (integer_at c.args.section c.args.key.now ms) _ c.from_residual.ensures.1 c.in_err-integer_at-in-Some.ensures.reading
    (λ fault e. optional_refused (integer_of c.args.section c.args.key.now) _ _ fault found e)

pub returns-in_ok-integer_at-in-Some : goal.returns-in_ok-integer_at-in-Some
returns-in_ok-integer_at-in-Some c =
    let ms = table_view c.args.table.now in
    let found : get_member c.args.key.now.name ms ≡ Some (view c.in-Some.field-0.now) = subst (λ name. get_member name ms ≡ Some (view c.in-Some.field-0.now)) c.name.ensures c.in-Some.ensures.found in
    let number : to_z w64 (of_z w64 c.in_ok-integer_at-in-Some.field-0) ≡ c.in_ok-integer_at-in-Some.field-0 = search rules in
    rw number (optional_found (integer_of c.args.section c.args.key.now) _ _ c.in_ok-integer_at-in-Some.field-0 found c.in_ok-integer_at-in-Some.ensures.reading)
