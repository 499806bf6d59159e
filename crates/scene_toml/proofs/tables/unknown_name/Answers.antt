use Rattle.std.proofs.Common.{◌≡◌, Some, None, false, not, map, find, string_bytes, rules, sym, ap, ◌∙◌}
use Rattle.scene_toml.specs.Readings.{is_known}
use Rattle.scene_toml.proofs.Names.{names_of-keys}
use Rattle.scene_toml.proofs.tables.unknown_name.Goals as goal

pub returns-then-not-is_known : goal.returns-then-not-is_known
returns-then-not-is_known c =
    let names = ap (find (λ name. not (is_known c.args.section name))) (names_of-keys c.args.table.now.entries) in
    let known : is_known c.args.section (string_bytes c.in-Some.name.now) ≡ false = search rules in
    let start : find (λ name. not (is_known c.args.section name)) (map string_bytes c.loop-name.name-iterator) ≡ Some (string_bytes c.in-Some.name.now) = rw (c.in-Some.ensures.steps, known) in
    let text : c.as_str-then-not-is_known.result.now ≡ string_bytes c.in-Some.name.now = search rules in
    rw text (sym start ∙ (c.loop-name.invariant.2 ∙ names))

pub returns : goal.returns
returns c =
    let names = ap (find (λ name. not (is_known c.args.section name))) (names_of-keys c.args.table.now.entries) in
    let start : find (λ name. not (is_known c.args.section name)) (map string_bytes c.loop-name.name-iterator) ≡ None = rw (c.in-None.ensures.steps.0) in
    sym start ∙ (c.loop-name.invariant.2 ∙ names)
