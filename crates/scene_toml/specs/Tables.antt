-- The table that a text means, and the keys in it that no scene has.
use Rattle.std.specs.Prelude.{List, [], ◌∷◌, ℕ, ◌+◌, not, Option, Some, None, find, option_map, if◌then◌else◌}
use Rattle.std.specs.Option.{option_or}
use Rattle.std.specs.Str.{is_utf8}
use Rattle.toml.specs.Data.{Data, array, table, Items, no_items, item, Members, no_members, member, get_member}
use Rattle.toml.specs.Parse.{parse_document}
use Rattle.scene_toml.specs.declared.keys.Section.{Section}
use Rattle.scene_toml.specs.declared.keys.Section.TheVariants.{Top, Material, Part}
use Rattle.scene_toml.specs.Keys.{printed}
use Rattle.scene_toml.specs.Parts.{part}
use Rattle.scene_toml.specs.Readings.{is_known, material}

-- the table that a text means as TOML, where it is such a text
abbrev pub table_of : List ℕ → Option Members
table_of bytes = if is_utf8 bytes then parse_document bytes else None

-- the names of a table's keys, in byte order
abbrev pub names_of : Members → List (List ℕ)
names_of no_members = []
names_of (member name value more) = name ∷ names_of more

-- the first name in a table that no key of its section has
abbrev pub unknown_name : Section → Members → Option (List ℕ)
unknown_name section members = find (λ name. not (is_known section name)) (names_of members)

abbrev pub unknown_key : Section → Members → Option (List ℕ)
unknown_key section members = option_map (printed section) (unknown_name section members)

-- the same of a value, which has keys only where it is a table
abbrev pub unknown_key_inside : Section → Option Data → Option (List ℕ)
unknown_key_inside section (Some (table members)) = unknown_key section members
unknown_key_inside section _ = None

-- the same of the items of an array of parts
abbrev pub unknown_inside_items : (index : ℕ) → Items → Option (List ℕ)
unknown_inside_items index no_items = None
unknown_inside_items index (item inside more) =
    option_or (unknown_key_inside (Part index) (Some inside)) (unknown_inside_items (index + 1) more)

abbrev pub unknown_key_of_parts : Option Data → Option (List ℕ)
unknown_key_of_parts (Some (array items)) = unknown_inside_items 0 items
unknown_key_of_parts _ = None

-- the first unknown key of a scene: of the top table, else of the material, else of the parts in their order
abbrev pub first_unknown : Members → Option (List ℕ)
first_unknown members =
    option_or (unknown_key Top members)
    (option_or (unknown_key_inside Material (get_member material.name members)) (unknown_key_of_parts (get_member part.name members)))
