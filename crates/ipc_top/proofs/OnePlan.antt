-- Words and files call for one plan, and for no other.
use Rattle.std.proofs.Common.{◌≡◌, ℕ, refl, ap, sym, subst, ◌∙◌, List, [], ◌∷◌, Option, Some, None}
use Rattle.std.specs.FinMap.{get}
use Rattle.surface_mesh.specs.declared.setup.Setup.{Setup}
use Rattle.frame_driver.specs.Frames.{Frame}
use Rattle.frame_driver.proofs.Existence.{path_from}
use Rattle.frame_driver.proofs.OnePath.{one_path_from}
use Rattle.ipc_top.specs.declared.mesh.TheConstants.{MESH_LIMIT}
use Rattle.ipc_top.specs.declared.scene.TheConstants.{SCENE_LIMIT}
use Rattle.ipc_top.specs.Acts.{Take, IsDue}
use Rattle.work_gen.specs.Stack.{stack_mesh}
use Rattle.ipc_top.specs.CallsFor.{SceneMeans, JobCallsFor, CommandCallsFor, StackCallsFor, CallsFor}
use Rattle.ipc_top.specs.Commands.{Command, Check, RunScene, RunStack, command_of}
use Rattle.ipc_top.specs.Files.{Outcome, Accepted, Refused, Continues, TakesFile}
use Rattle.ipc_top.specs.Jobs.{Job, check_job, scene_job, stack_job}
use Rattle.ipc_top.specs.Meshes.{MeshMeans}
use Rattle.ipc_top.specs.Motions.{Start}
use Rattle.ipc_top.specs.Moves.{Moves, AreFrames, first_start, motion_plan}
use Rattle.ipc_top.specs.Plans.{Plan, then_plan}
use Rattle.ipc_top.specs.Roles as roles
use Rattle.ipc_top.specs.Roles.{Seen}
use Rattle.ipc_top.specs.Calls.Files.{MayFollow}
use Rattle.ipc_top.proofs.ActsDone.{due_first}
use Rattle.ipc_top.proofs.Taking.{due_of}
use Rattle.ipc_top.proofs.Outcomes.{makes_texts, one_making, one_outcome, some_making, some_outcome, one_mesh_outcome, some_mesh}

-- ---- one plan

one_moves : (job : Job) (setup : Setup) (start : Start) (a b : Plan) → Moves job setup start a → Moves job setup start b → a ≡ b
one_moves job setup start a b p q =
    let frames : p.frames ≡ q.frames = one_path_from setup job.tol job.budget start.places start.before p.frames q.frames (p.are.count ∙ sym q.are.count) p.are.path q.are.path in
    p.same ∙ ap (λ (fs : List Frame). motion_plan job (record { setup = setup; start = start; frames = fs })) frames ∙ sym q.same

one_continues : {X : Type 0} (o : Outcome X) (Next : X → Plan → Type 0) → ((x : X) (a b : Plan) → Next x a → Next x b → a ≡ b) → (a b : Plan) → Continues o Next a → Continues o Next b → a ≡ b
one_continues (Accepted x) Next one a b p q = one x a b p q
one_continues (Refused refusal) Next one a b p q = p ∙ sym q

one_taking : {X : Type 0} (name : List ℕ) (limit : ℕ) (Means : List ℕ → Outcome X → Type 0) (file : Option (List ℕ)) (Next : X → Plan → Type 0)
    → ((bytes : List ℕ) (a b : Outcome X) → Means bytes a → Means bytes b → a ≡ b) → ((x : X) (a b : Plan) → Next x a → Next x b → a ≡ b)
    → (a b : Plan) → TakesFile name limit Means file Next a → TakesFile name limit Means file Next b → a ≡ b
one_taking {X} name limit Means file Next one_text one_next a b p q =
    let outcome : p.outcome ≡ q.outcome = one_outcome name limit Means file one_text p.outcome q.outcome p.means q.means in
    let rest : p.rest ≡ q.rest = one_continues q.outcome Next one_next p.rest q.rest (subst (λ (o : Outcome X). Continues o Next p.rest) outcome p.continues) q.continues in
    p.same ∙ ap (then_plan (Take name ∷ [])) rest ∙ sym q.same

one_job_plan : (job : Job) (seen : Seen) (a b : Plan) → JobCallsFor job seen a → JobCallsFor job seen b → a ≡ b
one_job_plan job seen =
    one_taking job.mesh MESH_LIMIT (MeshMeans job) (get (seen roles.Mesh) job.mesh) (λ setup. Moves job setup (first_start job setup)) (one_mesh_outcome job) (λ setup. one_moves job setup (first_start job setup))

one_stack_plan : (blocks : ℕ) (a b : Plan) → StackCallsFor blocks a → StackCallsFor blocks b → a ≡ b
one_stack_plan blocks a b p q =
    let next = λ (setup : Setup). Moves stack_job setup (first_start stack_job setup) in
    let outcome : p.outcome ≡ q.outcome = one_making stack_job.numbers (stack_mesh blocks) p.outcome q.outcome p.makes q.makes in
    one_continues q.outcome next (λ setup. one_moves stack_job setup (first_start stack_job setup)) a b (subst (λ (o : Outcome Setup). Continues o next a) outcome p.continues) q.continues

one_command_plan : (command : Option Command) (seen : Seen) (a b : Plan) → CommandCallsFor command seen a → CommandCallsFor command seen b → a ≡ b
one_command_plan None seen a b p q = p ∙ sym q
one_command_plan (Some (Check digits mesh out)) seen a b p q = one_job_plan (check_job digits mesh out) seen a b p q
one_command_plan (Some (RunScene name)) seen a b p q =
    one_taking name SCENE_LIMIT SceneMeans (get (seen roles.Scene) name) (λ scene. JobCallsFor (scene_job scene) seen) (λ bytes x y m n. m ∙ sym n) (λ scene. one_job_plan (scene_job scene) seen) a b p q
one_command_plan (Some (RunStack blocks)) seen a b p q = one_stack_plan blocks a b p q

pub only_plan : (words : List (List ℕ)) (seen : Seen) (a b : Plan) → CallsFor words seen a → CallsFor words seen b → a ≡ b
only_plan words seen a b p q = one_command_plan (command_of words) seen a b p.by_command q.by_command

-- ---- there is one

-- a plan of these, with an act
pub record SomePlan (IsCalledFor : Plan → Type 0) : Type 0 where
  pub plan : Plan
  pub called : IsCalledFor plan
  pub due : IsDue plan.acts

pub some_frames : (job : Job) (setup : Setup) (start : Start) → (frames : List Frame) × AreFrames job setup start frames
some_frames job setup start =
    let found = path_from setup job.tol job.budget start.places start.before job.frames in (found.0, record { count = found.1; path = found.2 })

pub some_moves : (job : Job) (setup : Setup) (start : Start) → SomePlan (Moves job setup start)
some_moves job setup start =
    let found = some_frames job setup start in
    record {
      plan = motion_plan job (record { setup = setup; start = start; frames = found.0 });
      called = record { frames = found.0; are = found.1; same = refl };
      due = due_first _ _;
    }

-- a plan that may follow an outcome
pub record SomeRest {X : Type 0} (o : Outcome X) (Next : X → Plan → Type 0) : Type 0 where
  pub plan : Plan
  pub continues : Continues o Next plan
  pub may : MayFollow o plan

pub some_rest : {X : Type 0} (o : Outcome X) (Next : X → Plan → Type 0) → ((x : X) → SomePlan (Next x)) → SomeRest o Next
some_rest (Accepted x) Next some = let found = some x in record { plan = found.plan; continues = found.called; may = found.due }
some_rest (Refused refusal) Next some = record { plan = refusal; continues = refl; may = refl }

some_taking : {X : Type 0} (name : List ℕ) (limit : ℕ) (Means : List ℕ → Outcome X → Type 0) (file : Option (List ℕ)) (Next : X → Plan → Type 0)
    → ((bytes : List ℕ) → (o : Outcome X) × Means bytes o) → ((x : X) → SomePlan (Next x)) → SomePlan (TakesFile name limit Means file Next)
some_taking name limit Means file Next some_text some_next =
    let found = some_outcome name limit Means file some_text in
    let rest = some_rest found.0 Next some_next in
    record {
      plan = then_plan (Take name ∷ []) rest.plan;
      called = record { outcome = found.0; means = found.1; rest = rest.plan; continues = rest.continues; same = refl };
      due = due_first (Take name) rest.plan.acts;
    }

pub some_job_plan : (job : Job) (seen : Seen) → SomePlan (JobCallsFor job seen)
some_job_plan job seen =
    some_taking job.mesh MESH_LIMIT (MeshMeans job) (get (seen roles.Mesh) job.mesh) (λ setup. Moves job setup (first_start job setup)) (some_mesh job) (λ setup. some_moves job setup (first_start job setup))

pub some_stack_plan : (blocks : ℕ) → SomePlan (StackCallsFor blocks)
some_stack_plan blocks =
    let found = some_making stack_job.numbers (stack_mesh blocks) in
    let rest = some_rest found.0 (λ setup. Moves stack_job setup (first_start stack_job setup)) (λ setup. some_moves stack_job setup (first_start stack_job setup)) in
    record {
      plan = rest.plan;
      called = record { outcome = found.0; makes = found.1; continues = rest.continues };
      due = due_of found.0 rest.plan (makes_texts stack_job.numbers (stack_mesh blocks) found.0 found.1) rest.may;
    }
