-- The parts of a scene: materials for the tetrahedra of a physical tag.
use Rattle.std.specs.Prelude.{List, [], ◌∷◌, ◌++◌, ℕ, ◌+◌, ℤ, pos, Bool, true, false, codes, length, unwrap_or, Option, Some, None, Result, Ok, Err, if◌then◌else◌}
use Rattle.std.specs.List.{list_any}
use Rattle.std.specs.Ordering.{int_eq}
use Rattle.toml.specs.Data.{Data, array, table, Items, no_items, item, Members}
use Rattle.space3.specs.declared.vectors.V3.{V3}
use Rattle.space3.specs.Vectors.{origin}
use Rattle.surface_mesh.specs.declared.materials.Material.{Material}
use Rattle.scene_toml.specs.declared.keys.Section.TheVariants as sections
use Rattle.scene_toml.specs.declared.keys.TheConstants.{DENSITIES, MODULI, PART_COUNTS, TAGS, VELOCITIES, NO_RANGE}
use Rattle.scene_toml.specs.declared.parts.PartKeys.{PartKeys}
use Rattle.scene_toml.specs.declared.refusal.SceneErr.{SceneErr}
use Rattle.scene_toml.specs.declared.refusal.SceneErr.TheVariants.{OutOfRange, WrongType}
use Rattle.scene_toml.specs.Keys.{Key, key, printed}
use Rattle.scene_toml.specs.Reading.{Reading, read_keys}
use Rattle.scene_toml.specs.Values.{and_then, bool_of, in_range, integer_of, optional, vector_of}

-- the array of parts
abbrev pub part : Key
part = key (codes "part") PART_COUNTS

-- the tag of a part, which no earlier part has
abbrev pub new_tag_of : (index : ℕ) → (earlier : List PartKeys) → Option Data → Result ℤ SceneErr
new_tag_of index earlier value =
    and_then (integer_of (sections.Part index) (key (codes "tag") TAGS) value) (λ tag.
    if list_any (λ part. int_eq part.tag tag) earlier then Err (OutOfRange (printed (sections.Part index) (codes "tag")) tag)
    else Ok tag)

-- a key of a material that a part may leave out
abbrev pub optional_integer : ℕ → Key → (Option ℤ → PartKeys → PartKeys) → Reading PartKeys
optional_integer index key put =
    record { Value = Option ℤ; key = key; read = optional (integer_of (sections.Part index) key); put = put }

-- the keys of a part in the order in which they are tried
abbrev pub part_keys : (index : ℕ) → (earlier : List PartKeys) → List (Reading PartKeys)
part_keys index earlier =
    record { Value = ℤ; key = key (codes "tag") TAGS; read = new_tag_of index earlier; put = λ n p. record p { tag = n } }
    ∷ optional_integer index (key (codes "density") DENSITIES) (λ n p. record p { density = n })
    ∷ optional_integer index (key (codes "mu") MODULI) (λ n p. record p { mu = n })
    ∷ optional_integer index (key (codes "lambda") MODULI) (λ n p. record p { lambda = n })
    ∷ record {
      Value = Option Bool;
      key = key (codes "fixed") NO_RANGE;
      read = optional (bool_of (sections.Part index) (key (codes "fixed") NO_RANGE) false);
      put = λ b p. record p { fixed = b };
    }
    ∷ record {
      Value = Option V3;
      key = key (codes "velocity") VELOCITIES;
      read = optional (vector_of (sections.Part index) (key (codes "velocity") VELOCITIES) origin);
      put = λ v p. record p { velocity = v };
    }
    ∷ []

-- a part of which nothing is read yet
abbrev pub no_part : PartKeys
no_part = record { tag = pos 0; density = None; mu = None; lambda = None; fixed = None; velocity = None }

-- the part that a table gives after the earlier ones
abbrev pub part_in : (earlier : List PartKeys) → Members → Result PartKeys SceneErr
part_in earlier members = read_keys (part_keys (length earlier) earlier) members no_part

-- each item is a table
abbrev pub are_tables : Items → Bool
are_tables no_items = true
are_tables (item (table _) more) = are_tables more
are_tables (item _ more) = false

abbrev pub count_of : Items → ℕ
count_of no_items = 0
count_of (item d more) = 1 + count_of more

abbrev pub not_tables : SceneErr
not_tables = WrongType (printed sections.Top part.name)

-- the part that an item of the array gives after the earlier ones
abbrev pub part_of : (earlier : List PartKeys) → Data → Result PartKeys SceneErr
part_of earlier (table members) = part_in earlier members
part_of earlier _ = Err not_tables

-- the parts that items give, after the earlier ones
abbrev pub parts_from : (earlier : List PartKeys) → Items → Result (List PartKeys) SceneErr
parts_from earlier no_items = Ok earlier
parts_from earlier (item d more) = and_then (part_of earlier d) (λ part. parts_from (earlier ++ part ∷ []) more)

-- the parts of a scene: none where the key is absent
abbrev pub parts_of : Option Data → Result (List PartKeys) SceneErr
parts_of (Some (array items)) =
    if are_tables items then and_then (in_range sections.Top part (pos (count_of items))) (λ _. parts_from [] items)
    else Err not_tables
parts_of (Some _) = Err not_tables
parts_of None = Ok []

-- the material of a part: the base material, with what the part has in its place
abbrev pub with_base : Material → PartKeys → ℤ × Material
with_base base part = (
  part.tag,
  record {
    density = unwrap_or part.density base.density;
    mu = unwrap_or part.mu base.mu;
    lambda = unwrap_or part.lambda base.lambda;
    fixed = unwrap_or part.fixed base.fixed;
    velocity = unwrap_or part.velocity base.velocity;
  },
)
