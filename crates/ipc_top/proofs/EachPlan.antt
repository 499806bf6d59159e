-- What holds of each plan that a command calls for.
use Rattle.std.proofs.Common.{◌≡◌, ℕ, refl, sym, subst, List, [], ◌∷◌, Option, Some, None}
use Rattle.std.specs.FinMap.{get}
use Rattle.surface_mesh.specs.declared.setup.Setup.{Setup}
use Rattle.boundary.specs.Surface.{SurfaceLists}
use Rattle.mesh_check.specs.Defects.{IsFirstDefect}
use Rattle.frame_driver.specs.Frames.{Frame}
use Rattle.surface_mesh.specs.Setup.{setup_of}
use Rattle.space3.specs.declared.mesh.Mesh.{Mesh}
use Rattle.ipc_top.specs.declared.mesh.TheConstants.{MESH_LIMIT}
use Rattle.ipc_top.specs.declared.scene.TheConstants.{SCENE_LIMIT}
use Rattle.ipc_top.specs.Acts.{Act, Take}
use Rattle.work_gen.specs.Stack.{stack_mesh}
use Rattle.ipc_top.specs.CallsFor.{SceneMeans, JobCallsFor, CommandCallsFor, StackCallsFor}
use Rattle.ipc_top.specs.Commands.{Command, Check, RunScene, RunStack}
use Rattle.ipc_top.specs.Files.{Outcome, Accepted, Refused, FileMeans, Continues, TakesFile}
use Rattle.ipc_top.specs.Jobs.{Job, check_job, scene_job, stack_job}
use Rattle.ipc_top.specs.Meshes.{MeshMeans}
use Rattle.ipc_top.specs.Moves.{Moves, AreFrames, first_start, motion_plan}
use Rattle.ipc_top.specs.Plans.{Plan, plan_of, then_plan}
use Rattle.ipc_top.specs.Roles as roles
use Rattle.ipc_top.specs.Roles.{Seen}
use Rattle.ipc_top.proofs.Outcomes.{AreMade, made, file_accepted, file_refusal, makes_refusal, mesh_refusal, scene_refusal, surface_six}
use Rattle.ipc_top.proofs.Taking.{OnRefused}

-- it holds of each refusal and of each motion, and stays where a file is taken first
pub record OfEach (Q : Plan → Type 0) : Type 0 where
  pub three : (acts : List Act) → Q (plan_of acts 3)
  pub five : (acts : List Act) → Q (plan_of acts 5)
  pub six : (acts : List Act) → Q (plan_of acts 6)
  pub seven : (acts : List Act) → Q (plan_of acts 7)
  pub ten : (acts : List Act) → Q (plan_of acts 10)
  pub taken : (name : List ℕ) (plan : Plan) → Q plan → Q (then_plan (Take name ∷ []) plan)
  pub moves : (job : Job) (mesh : Mesh) (surface : SurfaceLists) (frames : List Frame) → let setup = setup_of mesh surface job.numbers in IsFirstDefect setup None → AreFrames job setup (first_start job setup) frames → Q (motion_plan job (record { setup = setup; start = first_start job setup; frames = frames }))

takes_each : {X : Type 0} (Q : Plan → Type 0) (name : List ℕ) (limit : ℕ) (Means : List ℕ → Outcome X → Type 0) (file : Option (List ℕ)) (Next : X → Plan → Type 0) (plan : Plan) → OfEach Q
    → ((bytes : List ℕ) (o : Outcome X) → Means bytes o → OnRefused Q o)
    → ((x : X) (o : Outcome X) → FileMeans name limit Means file o → o ≡ Accepted x → (rest : Plan) → Next x rest → Q rest)
    → TakesFile name limit Means file Next plan → Q plan
takes_each {X} Q name limit Means file Next plan each text next takes =
    subst Q (sym takes.same) (each.taken name takes.rest (by takes.outcome refl takes.continues (file_refusal Q name limit Means file takes.outcome (each.three []) (each.ten _) (λ bytes m. text bytes takes.outcome m) takes.means)))
  where
    by : (o : Outcome X) → takes.outcome ≡ o → Continues o Next takes.rest → OnRefused Q o → Q takes.rest
    by (Accepted x) is continues refused = next x takes.outcome takes.means is takes.rest continues
    by (Refused refusal) is continues refused = subst Q (sym continues) refused

-- bodies of a mesh that were accepted
moves_each : (Q : Plan → Type 0) (job : Job) (setup : Setup) (rest : Plan) (mesh : Mesh) → OfEach Q → AreMade job.numbers mesh setup → Moves job setup (first_start job setup) rest → Q rest
moves_each Q job setup rest mesh each made moves =
    let bodies : Setup = setup_of mesh made.surface job.numbers in
    let there : Moves job bodies (first_start job bodies) rest = subst (λ (s : Setup). Moves job s (first_start job s) rest) made.built moves in
    subst Q (sym there.same) (each.moves job mesh made.surface there.frames (subst (λ (s : Setup). IsFirstDefect s None) made.built made.none) there.are)

job_each : (Q : Plan → Type 0) (job : Job) (seen : Seen) (plan : Plan) → OfEach Q → JobCallsFor job seen plan → Q plan
job_each Q job seen plan each takes =
    takes_each Q job.mesh MESH_LIMIT (MeshMeans job) (get (seen roles.Mesh) job.mesh) (λ setup. Moves job setup (first_start job setup)) plan each
    (mesh_refusal Q (λ fault. each.six _) (λ mesh err refused. surface_six Q each.six mesh err) (λ setup defect. each.seven _) job) moved takes
  where
    moved : (setup : Setup) (o : Outcome Setup) → FileMeans job.mesh MESH_LIMIT (MeshMeans job) (get (seen roles.Mesh) job.mesh) o → o ≡ Accepted setup → (rest : Plan) → Moves job setup (first_start job setup) rest → Q rest
    moved setup o means is rest moves =
        let found = file_accepted job.mesh MESH_LIMIT job (get (seen roles.Mesh) job.mesh) o setup means is in
        moves_each Q job setup rest found.1.mesh each found.1.made moves

stack_each : (Q : Plan → Type 0) (blocks : ℕ) (plan : Plan) → OfEach Q → StackCallsFor blocks plan → Q plan
stack_each Q blocks plan each calls = by calls.outcome refl calls.continues
    (makes_refusal Q (λ mesh err refused. surface_six Q each.six mesh err) (λ setup defect. each.seven _) stack_job.numbers (stack_mesh blocks) calls.outcome calls.makes)
  where
    by : (o : Outcome Setup) → calls.outcome ≡ o → Continues o (λ setup. Moves stack_job setup (first_start stack_job setup)) plan → OnRefused Q o → Q plan
    by (Accepted setup) is continues refused = moves_each Q stack_job setup plan (stack_mesh blocks) each (made stack_job.numbers (stack_mesh blocks) calls.outcome setup calls.makes is) continues
    by (Refused refusal) is continues refused = subst Q (sym continues) refused

pub each_plan : (Q : Plan → Type 0) (command : Command) (seen : Seen) (plan : Plan) → OfEach Q → CommandCallsFor (Some command) seen plan → Q plan
each_plan Q (Check digits mesh out) seen plan each h = job_each Q (check_job digits mesh out) seen plan each h
each_plan Q (RunScene name) seen plan each h =
    takes_each Q name SCENE_LIMIT SceneMeans (get (seen roles.Scene) name) (λ scene. JobCallsFor (scene_job scene) seen) plan each
    (scene_refusal Q (λ err. each.five _))
    (λ scene o means is rest called. job_each Q (scene_job scene) seen rest each called) h
each_plan Q (RunStack blocks) seen plan each h = stack_each Q blocks plan each h
