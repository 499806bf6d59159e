-- The scene that a text means, or its first fault.
use Rattle.std.specs.Prelude.{List, length, ℕ, ◌≤◌, pos, IfSome, Option, Some, None, Result, Err}
use Rattle.toml.specs.Data.{Members}
use Rattle.dec_text.specs.declared.TheConstants.{FINEST_GRID}
use Rattle.whole_laws.specs.Ranges.{IsFrom}
use Rattle.surface_mesh.specs.Materials.{AreNumbers}
use Rattle.scene_toml.specs.declared.keys.TheConstants.{NAME_LIMIT, FRAME_LIMIT, BUDGET_LIMIT, TOL_LIMIT}
use Rattle.scene_toml.specs.declared.refusal.SceneErr.{SceneErr}
use Rattle.scene_toml.specs.declared.refusal.SceneErr.TheVariants.{NotToml, UnknownKey}
use Rattle.scene_toml.specs.declared.scene.Scene.{Scene}
use Rattle.scene_toml.specs.Reading.{read_keys}
use Rattle.scene_toml.specs.Readings.{scene_keys, no_scene}
use Rattle.scene_toml.specs.Tables.{table_of, first_unknown}

-- the scene that a table with no unknown key gives
abbrev pub scene_in : Members → Result Scene SceneErr
scene_in ms = read_keys scene_keys ms no_scene

-- unknown keys are refused before any other fault
abbrev pub unless_unknown : Option (List ℕ) → Result Scene SceneErr → Result Scene SceneErr
unless_unknown (Some key) scene = Err (UnknownKey key)
unless_unknown None scene = scene

abbrev pub scene_of_members : Members → Result Scene SceneErr
scene_of_members ms = unless_unknown (first_unknown ms) (scene_in ms)

abbrev pub scene_of_table : Option Members → Result Scene SceneErr
scene_of_table (Some ms) = scene_of_members ms
scene_of_table None = Err NotToml

-- the scene that a text means, or its first fault
abbrev pub scene_of_text : List ℕ → Result Scene SceneErr
scene_of_text bytes = scene_of_table (table_of bytes)

-- a file's name in a scene
pub record IsName (name : List ℕ) : Type 0 where
  pub not_empty : 1 ≤ length name
  pub short : length name ≤ NAME_LIMIT

-- what each scene meets
pub record IsScene (scene : Scene) : Type 0 where
  pub mesh : IsName scene.mesh
  pub out : IsName scene.out
  pub digits : scene.digits ≤ FINEST_GRID
  pub frames : scene.frames ≤ FRAME_LIMIT
  pub some_budget : 1 ≤ scene.budget
  pub budget : scene.budget ≤ BUDGET_LIMIT
  pub tol : IsFrom (pos 0) TOL_LIMIT scene.tol
  pub trace : IfSome scene.trace IsName
  pub numbers : AreNumbers scene.numbers
