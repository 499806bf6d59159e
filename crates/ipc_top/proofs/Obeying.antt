-- How jobs and commands obey the words.
use Rattle.std.proofs.Common.{◌≡◌, ◌∙◌, ℕ, ℤ, refl, ap, sym, subst, List, [], ◌∷◌, Option, Some, None, Result, Ok, Err, IsErrAnd}
use Rattle.shelf_io.specs.Shelf.{Files, IsIfTold}
use Rattle.space3.specs.declared.mesh.Mesh.{Mesh}
use Rattle.surface_mesh.specs.declared.setup.Setup.{Setup}
use Rattle.surface_mesh.specs.declared.materials.Numbers.{Numbers}
use Rattle.scene_toml.specs.declared.scene.Scene.{Scene}
use Rattle.ipc_top.specs.declared.mesh.TheConstants.{MESH_LIMIT}
use Rattle.ipc_top.specs.declared.scene.TheConstants.{SCENE_LIMIT}
use Rattle.ipc_top.specs.declared.refusals.End.{End}
use Rattle.ipc_top.specs.Acts.{Take, World}
use Rattle.work_gen.specs.Stack.{stack_mesh, stack_scene}
use Rattle.ipc_top.specs.declared.acts.Stop.TheVariants as stops
use Rattle.ipc_top.specs.declared.refusals.End.TheVariants as ends
use Rattle.ipc_top.specs.CallsFor.{SceneMeans, JobCallsFor, CommandCallsFor, CallsFor, StackCallsFor, usage_plan}
use Rattle.ipc_top.specs.Commands.{Command, Check, RunScene, RunStack, command_of}
use Rattle.ipc_top.specs.Files.{Outcome, FileMeans, Continues}
use Rattle.ipc_top.specs.Jobs.{Job, check_numbers, check_job, scene_job, stack_job}
use Rattle.ipc_top.specs.Meshes.{MeshMakes, MeshMeans}
use Rattle.ipc_top.specs.Moves.{Moves, first_start}
use Rattle.ipc_top.specs.Plans.{Plan, then_plan}
use Rattle.ipc_top.specs.Roles as roles
use Rattle.ipc_top.specs.Roles.{Role, Seen, everywhere}
use Rattle.ipc_top.specs.Calls.Files.{LooksThrough, Takes}
use Rattle.ipc_top.specs.Calls.Plans.{Follows, FollowsOne, Obeys}
use Rattle.ipc_top.proofs.ActsDone.{nothing_done}
use Rattle.ipc_top.proofs.OnePlan.{some_moves, some_job_plan, some_rest, some_stack_plan}
use Rattle.ipc_top.proofs.Outcomes.{file_accepted, made}
use Rattle.ipc_top.proofs.PlansEnded.{follows_then, follows_end}
use Rattle.ipc_top.proofs.SomeFiles.{files_with, files_with-told, file_with, told_before}

-- ---- a job

-- the next plans of a job
abbrev pub next_of : Job → Setup → Plan → Type 0
next_of job setup = Moves job setup (first_start job setup)

-- its mesh was not taken, or was refused
pub job_ended : {old new : World} (job : Job) (end : End) (result : Result ℕ End) → IsErrAnd result (λ e. e ≡ end) → Takes job.mesh MESH_LIMIT (MeshMeans job) (Err end) old new → Obeys (JobCallsFor job) result old new
job_ended {old} {new} job end result is taken =
    let files = files_with old.shelf.files job.mesh taken.file in
    let there = file_with old.shelf.files job.mesh taken.file taken.told in
    let rest = some_rest taken.outcome (next_of job) (λ setup. some_moves job setup (first_start job setup)) in
    record {
      seen = everywhere files;
      told = λ role. files_with-told old.shelf.files job.mesh taken.file;
      plan = then_plan (Take job.mesh ∷ []) rest.plan;
      called = record {
        outcome = taken.outcome;
        means = subst (λ (o : Option (List ℕ)). FileMeans job.mesh MESH_LIMIT (MeshMeans job) o taken.outcome) (sym there) taken.means;
        rest = rest.plan;
        continues = rest.continues;
        same = refl;
      };
      follows = follows_end old new (then_plan (Take job.mesh ∷ []) rest.plan) end result is (taken.answers rest.plan rest.may);
    }

-- its mesh was taken, and its bodies moved on
pub job_moved : {old mid new : World} (job : Job) (setup : Setup) (result : Result ℕ End) → Takes job.mesh MESH_LIMIT (MeshMeans job) (Ok setup) old mid
    → FollowsOne (next_of (record job { numbers = setup.numbers }) setup) result mid new → Obeys (JobCallsFor job) result old new
job_moved {old} {mid} {new} job setup result taken moved =
    let files = files_with old.shelf.files job.mesh taken.file in
    let there = file_with old.shelf.files job.mesh taken.file taken.told in
    let found = file_accepted job.mesh MESH_LIMIT job taken.file taken.outcome setup taken.means taken.answers.0 in
    let numbers : setup.numbers ≡ job.numbers = ap (λ (s : Setup). s.numbers) found.1.made.built in
    let called : next_of job setup moved.plan = subst (λ (n : Numbers). next_of (record job { numbers = n }) setup moved.plan) numbers moved.called in
    record {
      seen = everywhere files;
      told = λ role. files_with-told old.shelf.files job.mesh taken.file;
      plan = then_plan (Take job.mesh ∷ []) moved.plan;
      called = record {
        outcome = taken.outcome;
        means = subst (λ (o : Option (List ℕ)). FileMeans job.mesh MESH_LIMIT (MeshMeans job) o taken.outcome) (sym there) taken.means;
        rest = moved.plan;
        continues = subst (λ (o : Outcome Setup). Continues o (next_of job) moved.plan) (sym taken.answers.0) called;
        same = refl;
      };
      follows = follows_then (Take job.mesh ∷ []) moved.plan result old mid new taken.answers.1 moved.follows;
    }

-- ---- a scene

-- files by what they are taken for
abbrev pub by_role : (scenes meshes : Files) → Seen
by_role scenes meshes roles.Scene = scenes
by_role scenes meshes roles.Mesh = meshes

told_by : (told : Option Files) (scenes meshes : Files) → IsIfTold told scenes → IsIfTold told meshes → (role : Role) → IsIfTold told (by_role scenes meshes role)
told_by told scenes meshes p q roles.Scene = p
told_by told scenes meshes p q roles.Mesh = q

-- it was not taken, or was refused
pub scene_ended : {old new : World} (name : List ℕ) (end : End) (result : Result ℕ End) → IsErrAnd result (λ e. e ≡ end) → Takes name SCENE_LIMIT SceneMeans (Err end) old new → Obeys (CommandCallsFor (Some (RunScene name))) result old new
scene_ended {old} {new} name end result is taken =
    let files = files_with old.shelf.files name taken.file in
    let there = file_with old.shelf.files name taken.file taken.told in
    let rest = some_rest taken.outcome (λ (scene : Scene). JobCallsFor (scene_job scene) (everywhere files)) (λ scene. some_job_plan (scene_job scene) (everywhere files)) in
    record {
      seen = everywhere files;
      told = λ role. files_with-told old.shelf.files name taken.file;
      plan = then_plan (Take name ∷ []) rest.plan;
      called = record {
        outcome = taken.outcome;
        means = subst (λ (o : Option (List ℕ)). FileMeans name SCENE_LIMIT SceneMeans o taken.outcome) (sym there) taken.means;
        rest = rest.plan;
        continues = rest.continues;
        same = refl;
      };
      follows = follows_end old new (then_plan (Take name ∷ []) rest.plan) end result is (taken.answers rest.plan rest.may);
    }

-- it was taken, and its job was done
pub scene_done : {old mid new : World} (name : List ℕ) (scene : Scene) (result : Result ℕ End) → Takes name SCENE_LIMIT SceneMeans (Ok scene) old mid → Obeys (JobCallsFor (scene_job scene)) result mid new → Obeys (CommandCallsFor (Some (RunScene name))) result old new
scene_done {old} {mid} {new} name scene result taken done =
    let scenes = files_with old.shelf.files name taken.file in
    let meshes = done.seen roles.Mesh in
    let there = file_with old.shelf.files name taken.file taken.told in
    let seen = by_role scenes meshes in
    record {
      seen = seen;
      told = told_by old.shelf.files scenes meshes (files_with-told old.shelf.files name taken.file) (told_before name meshes taken.answers.1 (done.told roles.Mesh));
      plan = then_plan (Take name ∷ []) done.plan;
      called = record {
        outcome = taken.outcome;
        means = subst (λ (o : Option (List ℕ)). FileMeans name SCENE_LIMIT SceneMeans o taken.outcome) (sym there) taken.means;
        rest = done.plan;
        continues = subst (λ (o : Outcome Scene). Continues o (λ scene. JobCallsFor (scene_job scene) seen) done.plan) (sym taken.answers.0) done.called;
        same = refl;
      };
      follows = follows_then (Take name ∷ []) done.plan result old mid new taken.answers.1 done.follows;
    }

-- the same job, as the code holds it
pub job_named : {old new : World} (job : Job) (mesh : List ℕ) (out trace : Option (List ℕ)) (tol : ℤ) (result : Result ℕ End) → mesh ≡ job.mesh → out ≡ job.out → trace ≡ job.trace → tol ≡ job.tol
    → Obeys (JobCallsFor (record job { mesh = mesh; out = out; trace = trace; tol = tol })) result old new → Obeys (JobCallsFor job) result old new
job_named {old} {new} job mesh out trace tol result e h k t ends = subst (λ (j : Job). Obeys (JobCallsFor j) result old new) (λ i. record job { mesh = e i; out = h i; trace = k i; tol = t i }) ends

-- ---- a check is a job

pub check_done : {old new : World} (digits : ℕ) (mesh out : List ℕ) (numbers : Numbers) (result : Result ℕ End) → numbers ≡ check_numbers → Obeys (JobCallsFor (record (check_job digits mesh out) { numbers = numbers })) result old new → Obeys (CommandCallsFor (Some (Check digits mesh out))) result old new
check_done {old} {new} digits mesh out numbers result e done = subst (λ (n : Numbers). Obeys (JobCallsFor (record (check_job digits mesh out) { numbers = n })) result old new) e done

-- ---- the stated stack

-- a plan that it calls for was followed
stack_obeyed : {old new : World} (blocks : ℕ) (plan : Plan) (result : Result ℕ End) → StackCallsFor blocks plan → Follows plan result old new → Obeys (CommandCallsFor (Some (RunStack blocks))) result old new
stack_obeyed {old} blocks plan result called follows = record {
  seen = everywhere (files_with old.shelf.files [] None);
  told = λ role. files_with-told old.shelf.files [] None;
  plan = plan;
  called = called;
  follows = follows;
}

-- memory for it was wanting
pub stack_not_made : (blocks : ℕ) (w : World) → Obeys (CommandCallsFor (Some (RunStack blocks))) (Err (ends.Stopped stops.Memory)) w w
stack_not_made blocks w = let some = some_stack_plan blocks in stack_obeyed blocks some.plan (Err (ends.Stopped stops.Memory)) some.called (nothing_done some.plan.acts w some.due)

-- what its mesh makes, as the code holds it
same_making : (blocks : ℕ) (scene : Scene) (mesh : Mesh) (o : Outcome Setup) → scene ≡ stack_scene → mesh ≡ stack_mesh blocks → MeshMakes scene.numbers mesh o → MeshMakes stack_job.numbers (stack_mesh blocks) o
same_making blocks scene mesh o e h makes = subst (λ (m : Mesh). MeshMakes stack_job.numbers m o) h (subst (λ (s : Scene). MeshMakes s.numbers mesh o) e makes)

-- it was refused, or its refusal was stopped
pub stack_ended : {old new : World} (blocks : ℕ) (scene : Scene) (mesh : Mesh) (end : End) (result : Result ℕ End) → IsErrAnd result (λ e. e ≡ end) → scene ≡ stack_scene → mesh ≡ stack_mesh blocks
    → LooksThrough (MeshMakes scene.numbers mesh) (Err end) old new → Obeys (CommandCallsFor (Some (RunStack blocks))) result old new
stack_ended {old} {new} blocks scene mesh end result is e h looked =
    let rest = some_rest looked.outcome (next_of stack_job) (λ setup. some_moves stack_job setup (first_start stack_job setup)) in
    stack_obeyed blocks rest.plan result (record { outcome = looked.outcome; makes = same_making blocks scene mesh looked.outcome e h looked.means; continues = rest.continues })
    (follows_end old new rest.plan end result is (looked.answers rest.plan rest.may))

-- its bodies moved on
pub stack_moved : {old mid new : World} (blocks : ℕ) (scene : Scene) (mesh : Mesh) (name : List ℕ) (tol : ℤ) (setup : Setup) (result : Result ℕ End) → scene ≡ stack_scene → mesh ≡ stack_mesh blocks → name ≡ scene.mesh → tol ≡ scene.tol
    → LooksThrough (MeshMakes scene.numbers mesh) (Ok setup) old mid → FollowsOne (next_of (record (scene_job scene) { mesh = name; out = None; trace = None; tol = tol; numbers = setup.numbers }) setup) result mid new
    → Obeys (CommandCallsFor (Some (RunStack blocks))) result old new
stack_moved {old} {mid} {new} blocks scene mesh name tol setup result e h named same_tol looked moved =
    let makes : MeshMakes stack_job.numbers (stack_mesh blocks) looked.outcome = same_making blocks scene mesh looked.outcome e h looked.means in
    let found = made stack_job.numbers (stack_mesh blocks) looked.outcome setup makes looked.answers.0 in
    let numbers : setup.numbers ≡ stack_job.numbers = ap (λ (s : Setup). s.numbers) found.built in
    let job : record (scene_job scene) { mesh = name; out = None; trace = None; tol = tol; numbers = setup.numbers } ≡ stack_job =
    (λ i. record (scene_job scene) { mesh = named i; out = None; trace = None; tol = same_tol i; numbers = numbers i })
    ∙ ap (λ (s : Scene). record (scene_job s) { out = None; trace = None; numbers = stack_job.numbers }) e in
    let called : next_of stack_job setup moved.plan = subst (λ (j : Job). next_of j setup moved.plan) job moved.called in
    stack_obeyed blocks moved.plan result
    (record { outcome = looked.outcome; makes = makes; continues = subst (λ (o : Outcome Setup). Continues o (next_of stack_job) moved.plan) (sym looked.answers.0) called })
    (follows_then [] moved.plan result old mid new looked.answers.1 moved.follows)

-- ---- words

pub words_obeyed : {old new : World} (words : List (List ℕ)) (command : Option Command) (result : Result ℕ End) → command ≡ command_of words → Obeys (CommandCallsFor command) result old new → Obeys (CallsFor words) result old new
words_obeyed words command result e done = record {
  seen = done.seen;
  told = done.told;
  plan = done.plan;
  called = record { by_command = subst (λ (c : Option Command). CommandCallsFor c done.seen done.plan) e done.called };
  follows = done.follows;
}

-- words that are no command
pub usage_obeyed : {old new : World} (words : List (List ℕ)) (result : Result ℕ End) → None ≡ command_of words → Follows usage_plan result old new → Obeys (CallsFor words) result old new
usage_obeyed {old} words result e follows = record {
  seen = everywhere (files_with old.shelf.files [] None);
  told = λ role. files_with-told old.shelf.files [] None;
  plan = usage_plan;
  called = record { by_command = subst (λ (c : Option Command). CommandCallsFor c (everywhere (files_with old.shelf.files [] None)) usage_plan) e refl };
  follows = follows;
}
