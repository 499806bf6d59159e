-- What words and files call for.
use Rattle.std.specs.Prelude.{◌≡◌, ℕ, List, Option, Some, None, Result, Ok, Err}
use Rattle.std.specs.FinMap.{get}
use Rattle.surface_mesh.specs.declared.setup.Setup.{Setup}
use Rattle.scene_toml.specs.declared.scene.Scene.{Scene}
use Rattle.scene_toml.specs.declared.refusal.SceneErr.{SceneErr}
use Rattle.scene_toml.specs.Scenes.{scene_of_text}
use Rattle.work_gen.specs.Stack.{stack_mesh}
use Rattle.report_text.specs.declared.line.Line.TheVariants as lines
use Rattle.ipc_top.specs.declared.mesh.TheConstants.{MESH_LIMIT}
use Rattle.ipc_top.specs.declared.scene.TheConstants.{SCENE_LIMIT}
use Rattle.ipc_top.specs.Commands.{Command, Check, RunScene, RunStack, command_of}
use Rattle.ipc_top.specs.Files.{Outcome, Accepted, Refused, Continues, TakesFile}
use Rattle.ipc_top.specs.Jobs.{Job, check_job, scene_job, stack_job}
use Rattle.ipc_top.specs.Meshes.{MeshMakes, MeshMeans}
use Rattle.ipc_top.specs.Moves.{Moves, first_start}
use Rattle.ipc_top.specs.Plans.{Plan, refusal}
use Rattle.ipc_top.specs.Roles as roles
use Rattle.ipc_top.specs.Roles.{Seen}

-- what comes of a scene as it was read
abbrev pub scene_outcome : Result Scene SceneErr → Outcome Scene
scene_outcome (Ok scene) = Accepted scene
scene_outcome (Err err) = Refused (refusal (lines.Scene err) 5)

-- what comes of a scene's text
abbrev pub SceneMeans : List ℕ → Outcome Scene → Type 0
SceneMeans bytes outcome = outcome ≡ scene_outcome (scene_of_text bytes)

-- to take a scene, and then
abbrev pub TakesScene : (name : List ℕ) → Seen → (Scene → Plan → Type 0) → Plan → Type 0
TakesScene name seen Next = TakesFile name SCENE_LIMIT SceneMeans (get (seen roles.Scene) name) Next

-- to take the mesh of a job, and then
abbrev pub TakesMesh : Job → Seen → (Setup → Plan → Type 0) → Plan → Type 0
TakesMesh job seen Next =
    TakesFile job.mesh MESH_LIMIT (MeshMeans job) (get (seen roles.Mesh) job.mesh) Next

-- to take the mesh of a job, and then to move its bodies from the mesh's places
abbrev pub JobCallsFor : Job → Seen → Plan → Type 0
JobCallsFor job seen = TakesMesh job seen (λ setup. Moves job setup (first_start job setup))

-- to look through the stated stack of so many blocks, and then to move its bodies from where they stand
pub record StackCallsFor (blocks : ℕ) (plan : Plan) : Type 0 where
  pub outcome : Outcome Setup
  pub makes : MeshMakes stack_job.numbers (stack_mesh blocks) outcome
  pub continues : Continues outcome (λ setup. Moves stack_job setup (first_start stack_job setup)) plan

-- the plan of words that are no command
abbrev pub usage_plan : Plan
usage_plan = refusal lines.Usage 2

-- what a command calls for
abbrev pub CommandCallsFor : Option Command → Seen → Plan → Type 0
CommandCallsFor None seen plan = plan ≡ usage_plan
CommandCallsFor (Some (Check digits mesh out)) seen plan = JobCallsFor (check_job digits mesh out) seen plan
CommandCallsFor (Some (RunScene name)) seen plan =
    TakesScene name seen (λ scene. JobCallsFor (scene_job scene) seen) plan
CommandCallsFor (Some (RunStack blocks)) seen plan = StackCallsFor blocks plan

-- what the words call for, where these files are seen
pub record CallsFor (words : List (List ℕ)) (seen : Seen) (plan : Plan) : Type 0 where
  pub by_command : CommandCallsFor (command_of words) seen plan
