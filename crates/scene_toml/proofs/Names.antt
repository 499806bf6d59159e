-- The names of a table's keys, as the keys of its map.
use Rattle.std.proofs.Common.{◌≡◌, List, [], ◌∷◌, map, String, Global, string_bytes, refl, ap}
use Rattle.std.specs.Map.{keys_of}
use Rattle.toml.specs.declared.value.Value.{Value}
use Rattle.toml.specs.View.{members_view}
use Rattle.scene_toml.specs.Tables.{names_of}

pub names_of-keys : (es : List (String Global × Value)) → map string_bytes (keys_of es) ≡ names_of (members_view es)
names_of-keys [] = refl
names_of-keys (e ∷ es) = ap (λ names. string_bytes e.0 ∷ names) (names_of-keys es)
