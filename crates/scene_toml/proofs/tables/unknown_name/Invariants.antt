use Rattle.std.proofs.Common.{◌≡◌, map, find, not, string_bytes}
use Rattle.std.specs.BTreeMap.{keys}
use Rattle.scene_toml.specs.Readings.{is_known}
use Rattle.scene_toml.proofs.tables.unknown_name.Given as goal

abbrev pub invariant-loop-name : goal.invariant-loop-name
invariant-loop-name l =
    (goal.iterator-loop-name).can_next l.name-iterator ×
    (goal.iterator-loop-name).is_finite l.name-iterator ×
    (find (λ name. not (is_known l.section name)) (map string_bytes l.name-iterator)
    ≡ find (λ name. not (is_known l.section name)) (map string_bytes (keys l.table)))
