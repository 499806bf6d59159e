-- Words of the crate's own calls: what stands at a key of a table.
use Rattle.std.specs.Prelude.{List, ℕ, ℤ, Bool, false, length, codes, Option, Result, Ok}
use Rattle.dec_text.specs.declared.Snap.{Snap}
use Rattle.toml.specs.Data.{Members, get_member}
use Rattle.space3.specs.declared.vectors.V3.{V3}
use Rattle.surface_mesh.specs.declared.materials.Material.{Material}
use Rattle.surface_mesh.specs.declared.materials.Numbers.{Numbers}
use Rattle.scene_toml.specs.declared.keys.Section.{Section}
use Rattle.scene_toml.specs.declared.refusal.SceneErr.{SceneErr}
use Rattle.space3.specs.Vectors.{origin}
use Rattle.scene_toml.specs.declared.groups.FileKeys.{FileKeys}
use Rattle.scene_toml.specs.declared.groups.ForceKeys.{ForceKeys}
use Rattle.scene_toml.specs.declared.groups.FrameKeys.{FrameKeys}
use Rattle.scene_toml.specs.declared.parts.PartKeys.{PartKeys}
use Rattle.scene_toml.specs.declared.scene.Scene.{Scene}
use Rattle.scene_toml.specs.Keys.{Key}
use Rattle.scene_toml.specs.Parts.{new_tag_of, part, parts_of}
use Rattle.scene_toml.specs.Reading.{read_keys}
use Rattle.scene_toml.specs.Readings.{file_keys, force_keys, frame_keys, material, material_keys, material_of, no_material, no_scene}
use Rattle.scene_toml.specs.Values.{and_then, bool_of, integer_of, integer_or, optional, snap_of, text_of, vector_of}

-- the integer at a key
abbrev pub integer_at : Section → Key → Members → Result ℤ SceneErr
integer_at section key members = integer_of section key (get_member key.name members)

-- the integer at a key that may be absent for another
abbrev pub integer_or_at : Section → Key → ℤ → Members → Result ℤ SceneErr
integer_or_at section key absent members = integer_or section key absent (get_member key.name members)

-- the truth value at a key
abbrev pub bool_at : Section → Key → Bool → Members → Result Bool SceneErr
bool_at section key absent members = bool_of section key absent (get_member key.name members)

-- the snap at a key
abbrev pub snap_at : Section → Key → Snap → Members → Result Snap SceneErr
snap_at section key absent members = snap_of section key absent (get_member key.name members)

-- the text at a key
abbrev pub text_at : Section → Key → Members → Result (List ℕ) SceneErr
text_at section key members = text_of section key (get_member key.name members)

-- the vector at a key
abbrev pub vector_at : Section → Key → V3 → Members → Result V3 SceneErr
vector_at section key absent members = vector_of section key absent (get_member key.name members)

-- the material of a table's keys, and the material at its key
abbrev pub material_in : Members → Result Material SceneErr
material_in members = read_keys material_keys members no_material

abbrev pub material_at : Members → Result Material SceneErr
material_at members = material_of (get_member material.name members)

-- what a scene's table gives at keys that are read together
abbrev pub files_of : Scene → FileKeys
files_of s = record { mesh = s.mesh; out = s.out; digits = s.digits; snap = s.snap }

abbrev pub files_in : Members → Result FileKeys SceneErr
files_in members = and_then (read_keys file_keys members no_scene) (λ s. Ok (files_of s))

abbrev pub frames_of : Scene → FrameKeys
frames_of s = record { frames = s.frames; budget = s.budget; tol = s.tol }

abbrev pub frames_in : Members → Result FrameKeys SceneErr
frames_in members = and_then (read_keys frame_keys members no_scene) (λ s. Ok (frames_of s))

abbrev pub forces_of : Numbers → ForceKeys
forces_of n = record { gravity = n.gravity; dhat = n.dhat; kappa = n.kappa; friction = n.friction; slip = n.slip }

abbrev pub forces_in : Members → Result ForceKeys SceneErr
forces_in members = and_then (read_keys force_keys members no_scene) (λ s. Ok (forces_of s.numbers))

-- what stands at a key that may be absent
abbrev pub optional_integer_at : Section → Key → Members → Result (Option ℤ) SceneErr
optional_integer_at section key members = optional (integer_of section key) (get_member key.name members)

abbrev pub optional_text_at : Section → Key → Members → Result (Option (List ℕ)) SceneErr
optional_text_at section key members = optional (text_of section key) (get_member key.name members)

abbrev pub optional_bool_at : Section → Key → Members → Result (Option Bool) SceneErr
optional_bool_at section key members = optional (bool_of section key false) (get_member key.name members)

abbrev pub optional_vector_at : Section → Key → Members → Result (Option V3) SceneErr
optional_vector_at section key members = optional (vector_of section key origin) (get_member key.name members)

abbrev pub new_tag_at : (earlier : List PartKeys) → Members → Result ℤ SceneErr
new_tag_at earlier members = new_tag_of (length earlier) earlier (get_member (codes "tag") members)

-- the parts of a scene with their materials
abbrev pub parts_at : Members → Result (List PartKeys) SceneErr
parts_at members = parts_of (get_member part.name members)
