-- The keys of each table in the order in which they are tried, and what is read at each.
use Rattle.std.specs.Prelude.{List, [], ◌∷◌, ◌++◌, ℕ, ℤ, pos, Bool, codes, bytes_eq, map, unsigned_abs, false, Option, Some, None, Result, Err}
use Rattle.std.specs.List.{list_any}
use Rattle.dec_text.specs.declared.Snap.{Snap}
use Rattle.dec_text.specs.declared.Snap.TheVariants.{Nearest}
use Rattle.toml.specs.Data.{Data, table}
use Rattle.space3.specs.declared.vectors.V3.{V3}
use Rattle.space3.specs.Vectors.{origin}
use Rattle.surface_mesh.specs.declared.materials.Material.{Material}
use Rattle.surface_mesh.specs.declared.materials.Numbers.{Numbers}
use Rattle.scene_toml.specs.declared.keys.Range.{Range}
use Rattle.scene_toml.specs.declared.keys.Section.{Section}
use Rattle.scene_toml.specs.declared.keys.Section.TheVariants as sections
use Rattle.scene_toml.specs.declared.keys.TheConstants.{NAME_LENGTHS, GRIDS, FRAME_COUNTS, BUDGETS, TOLERANCES, GRAVITIES, CONTACT_DISTANCES, STIFFNESSES, FRICTIONS, SLIPS, DENSITIES, MODULI, VELOCITIES, NO_RANGE}
use Rattle.scene_toml.specs.declared.refusal.SceneErr.{SceneErr}
use Rattle.scene_toml.specs.declared.refusal.SceneErr.TheVariants.{Missing, WrongType}
use Rattle.scene_toml.specs.declared.scene.Scene.{Scene}
use Rattle.scene_toml.specs.Keys.{Key, key, printed}
use Rattle.scene_toml.specs.Parts.{part, part_keys, parts_of, with_base}
use Rattle.scene_toml.specs.Reading.{Reading, read_keys}
use Rattle.scene_toml.specs.declared.parts.PartKeys.{PartKeys}
use Rattle.scene_toml.specs.Values.{bool_of, integer_of, integer_or, optional, snap_of, text_of, vector_of}

abbrev pub integer_key : {S : Type 0} → Section → List ℕ → Range → (ℤ → S → S) → Reading S
integer_key section name range put =
    record { Value = ℤ; key = key name range; read = integer_of section (key name range); put = put }

-- an integer that may be absent
abbrev pub optional_integer_key : {S : Type 0} → Section → List ℕ → Range → ℤ → (ℤ → S → S) → Reading S
optional_integer_key section name range absent put =
    record { Value = ℤ; key = key name range; read = integer_or section (key name range) absent; put = put }

abbrev pub text_key : {S : Type 0} → Section → List ℕ → Range → (List ℕ → S → S) → Reading S
text_key section name range put =
    record { Value = List ℕ; key = key name range; read = text_of section (key name range); put = put }

-- a text that may be absent
abbrev pub optional_text_key : {S : Type 0} → Section → List ℕ → Range → (Option (List ℕ) → S → S) → Reading S
optional_text_key section name range put =
    record { Value = Option (List ℕ); key = key name range; read = optional (text_of section (key name range)); put = put }

-- a vector that may be absent
abbrev pub vector_key : {S : Type 0} → Section → List ℕ → Range → V3 → (V3 → S → S) → Reading S
vector_key section name range absent put =
    record { Value = V3; key = key name range; read = vector_of section (key name range) absent; put = put }

-- true or false, which may be absent
abbrev pub bool_key : {S : Type 0} → Section → List ℕ → Bool → (Bool → S → S) → Reading S
bool_key section name absent put =
    record { Value = Bool; key = key name NO_RANGE; read = bool_of section (key name NO_RANGE) absent; put = put }

-- a word that names a snap, which may be absent
abbrev pub snap_key : {S : Type 0} → Section → List ℕ → Snap → (Snap → S → S) → Reading S
snap_key section name absent put =
    record { Value = Snap; key = key name NO_RANGE; read = snap_of section (key name NO_RANGE) absent; put = put }

abbrev pub material_keys : List (Reading Material)
material_keys =
    integer_key sections.Material (codes "density") DENSITIES (λ n m. record m { density = n })
    ∷ integer_key sections.Material (codes "mu") MODULI (λ n m. record m { mu = n })
    ∷ integer_key sections.Material (codes "lambda") MODULI (λ n m. record m { lambda = n })
    ∷ bool_key sections.Material (codes "fixed") false (λ b m. record m { fixed = b })
    ∷ vector_key sections.Material (codes "velocity") VELOCITIES origin (λ v m. record m { velocity = v })
    ∷ []

-- a material of which nothing is read yet
abbrev pub no_material : Material
no_material = record { density = pos 0; mu = pos 0; lambda = pos 0; fixed = false; velocity = origin }

-- the table of the material
abbrev pub material : Key
material = key (codes "material") NO_RANGE

-- the material that its table gives
abbrev pub material_of : Option Data → Result Material SceneErr
material_of (Some (table members)) = read_keys material_keys members no_material
material_of (Some _) = Err (WrongType (printed sections.Top material.name))
material_of None = Err (Missing (printed sections.Top material.name))

-- the keys of files and of the grid
abbrev pub file_keys : List (Reading Scene)
file_keys =
    text_key sections.Top (codes "mesh") NAME_LENGTHS (λ text s. record s { mesh = text })
    ∷ text_key sections.Top (codes "out") NAME_LENGTHS (λ text s. record s { out = text })
    ∷ integer_key sections.Top (codes "digits") GRIDS (λ n s. record s { digits = unsigned_abs n })
    ∷ snap_key sections.Top (codes "snap") Nearest (λ snap s. record s { snap = snap })
    ∷ []

-- the keys of the frames
abbrev pub frame_keys : List (Reading Scene)
frame_keys =
    integer_key sections.Top (codes "frames") FRAME_COUNTS (λ n s. record s { frames = unsigned_abs n })
    ∷ integer_key sections.Top (codes "budget") BUDGETS (λ n s. record s { budget = unsigned_abs n })
    ∷ integer_key sections.Top (codes "tol") TOLERANCES (λ n s. record s { tol = n })
    ∷ []

-- the keys of gravity, of contact and of friction
abbrev pub force_keys : List (Reading Scene)
force_keys =
    vector_key sections.Top (codes "gravity") GRAVITIES origin (λ v s. record s { numbers = record s.numbers { gravity = v } })
    ∷ integer_key sections.Top (codes "dhat") CONTACT_DISTANCES (λ n s. record s { numbers = record s.numbers { dhat = n } })
    ∷ integer_key sections.Top (codes "kappa") STIFFNESSES (λ n s. record s { numbers = record s.numbers { kappa = n } })
    ∷ optional_integer_key sections.Top (codes "friction") FRICTIONS (pos 0) (λ n s. record s { numbers = record s.numbers { friction = n } })
    ∷ optional_integer_key sections.Top (codes "slip") SLIPS (pos 1) (λ n s. record s { numbers = record s.numbers { slip = n } })
    ∷ []

-- the keys of the traces and of the bodies
abbrev pub body_keys : List (Reading Scene)
body_keys =
    optional_text_key sections.Top (codes "trace") NAME_LENGTHS (λ text s. record s { trace = text })
    ∷ record {
      Value = Material;
      key = material;
      read = material_of;
      put = λ base s. record s { numbers = record s.numbers { base = base } };
    }
    ∷ record {
      Value = List PartKeys;
      key = part;
      read = parts_of;
      put = λ parts s. record s { numbers = record s.numbers { parts = map (with_base s.numbers.base) parts } };
    }
    ∷ []

-- the keys of a scene
abbrev pub scene_keys : List (Reading Scene)
scene_keys = file_keys ++ (frame_keys ++ (force_keys ++ body_keys))

-- a scene of which nothing is read yet
abbrev pub no_numbers : Numbers
no_numbers = record { base = no_material; parts = []; kappa = pos 0; dhat = pos 0; friction = pos 0; slip = pos 0; gravity = origin }

abbrev pub no_scene : Scene
no_scene = record {
  mesh = [];
  out = [];
  digits = 0;
  snap = Nearest;
  frames = 0;
  budget = 0;
  tol = pos 0;
  trace = None;
  numbers = no_numbers;
}

-- the keys that a table may have are those that are read in it
abbrev pub keys_in : Section → List Key
keys_in sections.Top = map (λ reading. reading.key) scene_keys
keys_in sections.Material = map (λ reading. reading.key) material_keys
keys_in (sections.Part index) = map (λ reading. reading.key) (part_keys index [])

abbrev pub is_known : Section → List ℕ → Bool
is_known section name = list_any (λ key. bytes_eq key.name name) (keys_in section)
