-- Keys, and how they are printed. src/keys.rt has the table of all keys with their ranges.
use Rattle.std.specs.Prelude.{List, [], ◌++◌, ℕ, ℤ, codes, decimal}
use Rattle.scene_toml.specs.declared.keys.Range.{Range}
use Rattle.scene_toml.specs.declared.keys.Section.{Section}
use Rattle.scene_toml.specs.declared.keys.Section.TheVariants.{Top, Material, Part}

-- a key: its name, and the least and the greatest value of an integer, of each of three integers, or of a text's
-- length in bytes
pub record Key : Type 0 where
  pub name : List ℕ
  pub least : ℤ
  pub most : ℤ

-- the key of this name with this range
abbrev pub key : List ℕ → Range → Key
key name range = record { name = name; least = range.0; most = range.1 }

-- what the keys of a table are printed after
abbrev pub prefix : Section → List ℕ
prefix Top = []
prefix Material = codes "material."
prefix (Part k) = codes "part." ++ decimal k ++ codes "."

abbrev pub printed : Section → List ℕ → List ℕ
printed section name = prefix section ++ name
