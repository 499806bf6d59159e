-- What comes of a file: always one thing, and only one.
use Rattle.std.proofs.Common.{◌≡◌, ◌<◌, ◌≤◌, ℕ, refl, ap, sym, subst, ◌∙◌, List, [], length, ◌⊎◌, inl, inr, Option, Some, None, Result, Ok, Err, arith}
use Rattle.std.proofs.Math.Decide.{dec_le}
use Rattle.space3.specs.declared.mesh.Mesh.{Mesh}
use Rattle.msh_text.specs.declared.refusal.MshErr.{MshErr}
use Rattle.msh_text.specs.Texts.{TextMeans, IsTextFault}
use Rattle.msh_text.proofs.Meaning.{means_or_fault_of, never_both_of, one_mesh_of, one_fault_of}
use Rattle.surface_mesh.specs.declared.setup.Setup.{Setup}
use Rattle.surface_mesh.specs.declared.materials.Numbers.{Numbers}
use Rattle.surface_mesh.specs.Setup.{setup_of}
use Rattle.boundary.specs.declared.refusal.SurfErr.{SurfErr}
use Rattle.boundary.specs.declared.refusal.SurfErr.TheVariants as surfaces
use Rattle.boundary.specs.Outcomes.{IsSurfaceOutcome}
use Rattle.boundary.specs.Refusals.{Refuses}
use Rattle.boundary.specs.Surface.{SurfaceLists}
use Rattle.boundary.proofs.OneOutcome.{one_surface_outcome}
use Rattle.boundary.proofs.SomeOutcome.{some_surface_outcome}
use Rattle.mesh_check.specs.declared.defects.Defect.{Defect}
use Rattle.mesh_check.specs.Defects.{IsFirstDefect}
use Rattle.mesh_check.proofs.OneDefect.{one_defect, some_defect}
use Rattle.scene_toml.specs.declared.scene.Scene.{Scene}
use Rattle.scene_toml.specs.declared.refusal.SceneErr.{SceneErr}
use Rattle.scene_toml.specs.Scenes.{scene_of_text}
use Rattle.report_text.specs.declared.line.Line.TheVariants as lines
use Rattle.ipc_top.specs.Acts.{Act, Say, World}
use Rattle.ipc_top.specs.CallsFor.{SceneMeans, scene_outcome}
use Rattle.ipc_top.specs.Files.{Outcome, Accepted, Refused, FileMeans, Missing, TooLong, Whole, missing_plan, too_long_plan}
use Rattle.ipc_top.specs.Jobs.{Job}
use Rattle.ipc_top.specs.Numbered.{defect_line}
use Rattle.ipc_top.specs.Meshes.{MeshMakes, NoSurface, Bodies, MeshMeans, NoMesh, OfMesh, SetupMeans, defect_plan, mesh_refused_plan, outcome_of, surface_refused_plan}
use Rattle.ipc_top.specs.Plans.{Plan, plan_of, refusal}
use Rattle.ipc_top.proofs.ActsDone.{due_first}
use Rattle.ipc_top.specs.declared.refusals.End.{End}
use Rattle.ipc_top.specs.Calls.Files.{LooksThrough}
use Rattle.ipc_top.specs.Calls.Plans.{Follows}
use Rattle.ipc_top.proofs.Taking.{OnRefused, IsTextRefusal, looked_refused}

-- ---- a scene

pub scene_refusal : (Q : Plan → Type 0) → ((err : SceneErr) → Q (refusal (lines.Scene err) 5)) → (bytes : List ℕ) (o : Outcome Scene) → SceneMeans bytes o → OnRefused Q o
scene_refusal Q q bytes o is = subst (λ (x : Outcome Scene). OnRefused Q x) (sym is) (by (scene_of_text bytes))
  where
    by : (read : Result Scene SceneErr) → OnRefused Q (scene_outcome read)
    by (Ok scene) = tt
    by (Err err) = q err

pub scene_texts : (bytes : List ℕ) (o : Outcome Scene) → SceneMeans bytes o → OnRefused IsTextRefusal o
scene_texts = scene_refusal IsTextRefusal (λ err. record { due = due_first (Say (lines.Scene err)) []; not_ten = λ e. omega arith })

pub some_scene : (bytes : List ℕ) → (o : Outcome Scene) × SceneMeans bytes o
some_scene bytes = (scene_outcome (scene_of_text bytes), refl)

-- ---- bodies

found_refusal : (Q : Plan → Type 0) → ((setup : Setup) (defect : Defect) → Q (defect_plan setup defect)) → (setup : Setup) (found : Option Defect) → OnRefused Q (outcome_of setup found)
found_refusal Q seven setup None = tt
found_refusal Q seven setup (Some defect) = seven setup defect

setup_refusal : (Q : Plan → Type 0) → ((setup : Setup) (defect : Defect) → Q (defect_plan setup defect)) → (setup : Setup) (o : Outcome Setup) → SetupMeans setup o → OnRefused Q o
setup_refusal Q seven setup o m = subst (λ (x : Outcome Setup). OnRefused Q x) (sym m.same) (found_refusal Q seven setup m.found)

defect_is_told : (setup : Setup) (defect : Defect) → IsTextRefusal (defect_plan setup defect)
defect_is_told setup defect = record { due = due_first (Say (defect_line setup defect)) []; not_ten = λ e. omega arith }

pub setup_texts : (setup : Setup) (o : Outcome Setup) → SetupMeans setup o → OnRefused IsTextRefusal o
setup_texts = setup_refusal IsTextRefusal defect_is_told

-- bodies as they were built, and what was found in them
pub found_in : (setup held : Setup) (found : Option Defect) → held ≡ setup → IsFirstDefect held found → SetupMeans setup (outcome_of held found)
found_in setup held found built first = subst (λ (s : Setup). SetupMeans s (outcome_of held found)) built (record { found = found; first = first; same = refl })

pub some_setup : (setup : Setup) → (o : Outcome Setup) × SetupMeans setup o
some_setup setup = let found = some_defect setup in (outcome_of setup found.0, record { found = found.0; first = found.1; same = refl })

one_setup : (setup : Setup) (a b : Outcome Setup) → SetupMeans setup a → SetupMeans setup b → a ≡ b
one_setup setup a b m n = m.same ∙ ap (outcome_of setup) (one_defect setup m.found n.found m.first n.first) ∙ sym n.same

-- ---- a mesh

pub makes_refusal : (Q : Plan → Type 0) → ((mesh : Mesh) (err : SurfErr) → IsSurfaceOutcome mesh (Err err) → Q (surface_refused_plan mesh err)) → ((setup : Setup) (defect : Defect) → Q (defect_plan setup defect)) → (numbers : Numbers) (mesh : Mesh) (o : Outcome Setup) → MeshMakes numbers mesh o → OnRefused Q o
makes_refusal Q six seven numbers mesh o (NoSurface err refused is) = subst (λ (x : Outcome Setup). OnRefused Q x) (sym is) (six mesh err refused)
makes_refusal Q six seven numbers mesh o (Bodies surface usable means) = setup_refusal Q seven (setup_of mesh surface numbers) o means

surface_is_told : (mesh : Mesh) (err : SurfErr) → IsSurfaceOutcome mesh (Err err) → IsTextRefusal (surface_refused_plan mesh err)
surface_is_told mesh surfaces.Memory refused = absurd refused
surface_is_told mesh (surfaces.FaceThrice tets) refused = record { due = due_first _ _; not_ten = λ e. omega arith }
surface_is_told mesh (surfaces.FaceSame tets) refused = record { due = due_first _ _; not_ten = λ e. omega arith }
surface_is_told mesh (surfaces.TooManyTriangles count) refused = record { due = due_first _ _; not_ten = λ e. omega arith }

-- a plan of a refusal for a surface ends with 6
pub surface_six : (Q : Plan → Type 0) → ((acts : List Act) → Q (plan_of acts 6)) → (mesh : Mesh) (err : SurfErr) → Q (surface_refused_plan mesh err)
surface_six Q six mesh surfaces.Memory = six _
surface_six Q six mesh (surfaces.FaceThrice tets) = six _
surface_six Q six mesh (surfaces.FaceSame tets) = six _
surface_six Q six mesh (surfaces.TooManyTriangles count) = six _

pub makes_texts : (numbers : Numbers) (mesh : Mesh) (o : Outcome Setup) → MeshMakes numbers mesh o → OnRefused IsTextRefusal o
makes_texts = makes_refusal IsTextRefusal surface_is_told defect_is_told

-- a mesh makes something
pub some_making : (numbers : Numbers) (mesh : Mesh) → (o : Outcome Setup) × MeshMakes numbers mesh o
some_making numbers mesh = let outcome = some_surface_outcome mesh in by outcome.0 outcome.1
  where
    by : (outcome : Result SurfaceLists SurfErr) → IsSurfaceOutcome mesh outcome → (o : Outcome Setup) × MeshMakes numbers mesh o
    by (Ok surface) usable = let found = some_setup (setup_of mesh surface numbers) in (found.0, Bodies surface usable found.1)
    by (Err err) refused = (Refused (surface_refused_plan mesh err), NoSurface err refused refl)

abbrev err_of : SurfErr → Result SurfaceLists SurfErr → SurfErr
err_of other (Ok surface) = other
err_of other (Err err) = err

abbrev surface_of : SurfaceLists → Result SurfaceLists SurfErr → SurfaceLists
surface_of other (Ok surface) = surface
surface_of other (Err err) = other

-- a refusal for another cause than want of memory is an outcome
refusal_is_outcome : (mesh : Mesh) (err : SurfErr) → (err ≡ surfaces.Memory → ⊥) → Refuses mesh err → IsSurfaceOutcome mesh (Err err)
refusal_is_outcome mesh surfaces.Memory other refused = absurd (other refl)
refusal_is_outcome mesh (surfaces.FaceThrice tets) other refused = refused
refusal_is_outcome mesh (surfaces.FaceSame tets) other refused = refused
refusal_is_outcome mesh (surfaces.TooManyTriangles count) other refused = refused

-- a mesh was refused for its surface
pub surface_refused : {old new : World} (numbers : Numbers) (mesh : Mesh) (err : SurfErr) (plan : Plan) (end : End) → (err ≡ surfaces.Memory → ⊥) → Refuses mesh err → plan ≡ surface_refused_plan mesh err → Follows plan (Err end) old new
    → LooksThrough (MeshMakes numbers mesh) (Err end) old new
surface_refused {old} {new} numbers mesh err plan end other refused same follows =
    looked_refused old new (MeshMakes numbers mesh) (surface_refused_plan mesh err) end (NoSurface err (refusal_is_outcome mesh err other refused) refl)
    (subst (λ (p : Plan). Follows p (Err end) old new) same follows)

pub one_making : (numbers : Numbers) (mesh : Mesh) (a b : Outcome Setup) → MeshMakes numbers mesh a → MeshMakes numbers mesh b → a ≡ b
one_making numbers mesh a b (NoSurface err refused is) (NoSurface err' refused' is') =
    let same : err ≡ err' = ap (err_of err) (one_surface_outcome mesh (Err err) (Err err') refused refused') in
    is ∙ ap (λ e. Refused (surface_refused_plan mesh e)) same ∙ sym is'
one_making numbers mesh a b (NoSurface err refused is) (Bodies surface usable means) = absurd (differ (one_surface_outcome mesh (Err err) (Ok surface) refused usable))
  where
    differ : Err err ≡ Ok surface → ⊥
    differ e = cc
one_making numbers mesh a b (Bodies surface usable means) (NoSurface err refused is) = absurd (differ (one_surface_outcome mesh (Err err) (Ok surface) refused usable))
  where
    differ : Err err ≡ Ok surface → ⊥
    differ e = cc
one_making numbers mesh a b (Bodies surface usable means) (Bodies surface' usable' means') =
    let same : surface ≡ surface' = ap (surface_of surface) (one_surface_outcome mesh (Ok surface) (Ok surface') usable usable') in
    one_setup (setup_of mesh surface' numbers) a b (subst (λ (s : SurfaceLists). SetupMeans (setup_of mesh s numbers) a) same means) means'

-- ---- a mesh's text

pub mesh_refusal : (Q : Plan → Type 0) → ((fault : MshErr) → Q (mesh_refused_plan fault)) → ((mesh : Mesh) (err : SurfErr) → IsSurfaceOutcome mesh (Err err) → Q (surface_refused_plan mesh err)) → ((setup : Setup) (defect : Defect) → Q (defect_plan setup defect)) → (job : Job) (bytes : List ℕ) (o : Outcome Setup) → MeshMeans job bytes o → OnRefused Q o
mesh_refusal Q text six seven job bytes o (NoMesh fault first is) = subst (λ (x : Outcome Setup). OnRefused Q x) (sym is) (text fault)
mesh_refusal Q text six seven job bytes o (OfMesh mesh means makes) = makes_refusal Q six seven job.numbers mesh o makes

fault_is_told : (fault : MshErr) → IsTextRefusal (mesh_refused_plan fault)
fault_is_told fault = record { due = due_first (Say (lines.MeshText fault)) []; not_ten = λ e. omega arith }

pub mesh_texts : (job : Job) (bytes : List ℕ) (o : Outcome Setup) → MeshMeans job bytes o → OnRefused IsTextRefusal o
mesh_texts = mesh_refusal IsTextRefusal fault_is_told surface_is_told defect_is_told

-- bodies that are accepted are those of the mesh and its surface, and have no defect
pub record AreMade (numbers : Numbers) (mesh : Mesh) (setup : Setup) : Type 0 where
  pub surface : SurfaceLists
  pub built : setup ≡ setup_of mesh surface numbers
  pub none : IsFirstDefect setup None

pub made : (numbers : Numbers) (mesh : Mesh) (o : Outcome Setup) (setup : Setup) → MeshMakes numbers mesh o → o ≡ Accepted setup → AreMade numbers mesh setup
made numbers mesh o setup (NoSurface err refused is) e = absurd cc
made numbers mesh o setup (Bodies surface usable m) e = by m.found m.first (sym m.same ∙ e)
  where
    by : (found : Option Defect) → IsFirstDefect (setup_of mesh surface numbers) found → outcome_of (setup_of mesh surface numbers) found ≡ Accepted setup → AreMade numbers mesh setup
    by None first e = let same : setup_of mesh surface numbers ≡ setup = cc in record { surface = surface; built = sym same; none = subst (λ (s : Setup). IsFirstDefect s None) same first }
    by (Some defect) first e = absurd cc

-- the same of a text's mesh
pub record IsAccepted (job : Job) (bytes : List ℕ) (setup : Setup) : Type 0 where
  pub mesh : Mesh
  pub means : TextMeans bytes job.digits job.snap mesh
  pub made : AreMade job.numbers mesh setup

pub accepted : (job : Job) (bytes : List ℕ) (o : Outcome Setup) (setup : Setup) → MeshMeans job bytes o → o ≡ Accepted setup → IsAccepted job bytes setup
accepted job bytes o setup (NoMesh fault first is) e = absurd cc
accepted job bytes o setup (OfMesh mesh means makes) e = record { mesh = mesh; means = means; made = made job.numbers mesh o setup makes e }

pub one_mesh_outcome : (job : Job) (bytes : List ℕ) (a b : Outcome Setup) → MeshMeans job bytes a → MeshMeans job bytes b → a ≡ b
one_mesh_outcome job bytes a b (NoMesh fault first is) (NoMesh fault' first' is') =
    is ∙ ap (λ f. Refused (mesh_refused_plan f)) (one_fault_of bytes job.digits job.snap fault fault' first first') ∙ sym is'
one_mesh_outcome job bytes a b (NoMesh fault first is) (OfMesh mesh means makes) = absurd (never_both_of bytes job.digits job.snap mesh fault means first)
one_mesh_outcome job bytes a b (OfMesh mesh means makes) (NoMesh fault first is) = absurd (never_both_of bytes job.digits job.snap mesh fault means first)
one_mesh_outcome job bytes a b (OfMesh mesh means makes) (OfMesh mesh' means' makes') =
    one_making job.numbers mesh' a b (subst (λ (m : Mesh). MeshMakes job.numbers m a) (one_mesh_of bytes job.digits job.snap mesh mesh' means means') makes) makes'

-- a text has an outcome
pub some_mesh : (job : Job) (bytes : List ℕ) → (o : Outcome Setup) × MeshMeans job bytes o
some_mesh job bytes = by (means_or_fault_of bytes job.digits job.snap)
  where
    by : ((mesh : Mesh) × TextMeans bytes job.digits job.snap mesh) ⊎ ((fault : MshErr) × IsTextFault bytes job.digits job.snap fault) → (o : Outcome Setup) × MeshMeans job bytes o
    by (inl found) = let made = some_making job.numbers found.0 in (made.0, OfMesh found.0 found.1 made.1)
    by (inr found) = (Refused (mesh_refused_plan found.0), NoMesh found.0 found.1 refl)

-- ---- a file

pub some_outcome : {X : Type 0} (name : List ℕ) (limit : ℕ) (Means : List ℕ → Outcome X → Type 0) (file : Option (List ℕ)) → ((bytes : List ℕ) → (o : Outcome X) × Means bytes o) → (o : Outcome X) × FileMeans name limit Means file o
some_outcome {X} name limit Means None some = (Refused (missing_plan), Missing refl refl)
some_outcome {X} name limit Means (Some bytes) some = by (dec_le (length bytes) limit)
  where
    by : Dec (length bytes ≤ limit) → (o : Outcome X) × FileMeans name limit Means (Some bytes) o
    by (yes p) = ((some bytes).0, Whole bytes refl p (some bytes).1)
    by (no p) = (Refused (too_long_plan name limit), TooLong bytes refl (omega (arith, p)) refl)

clash : (limit : ℕ) (bs bs' : List ℕ) → bs ≡ bs' → limit < length bs → length bs' ≤ limit → ⊥
clash limit bs bs' same long within = let e = ap length same in omega (arith, e)

pub one_outcome : {X : Type 0} (name : List ℕ) (limit : ℕ) (Means : List ℕ → Outcome X → Type 0) (file : Option (List ℕ)) → ((bytes : List ℕ) (a b : Outcome X) → Means bytes a → Means bytes b → a ≡ b) → (a b : Outcome X) → FileMeans name limit Means file a → FileMeans name limit Means file b → a ≡ b
one_outcome name limit Means file one a b (Missing p is) (Missing q is') = is ∙ sym is'
one_outcome name limit Means file one a b (Missing p is) (TooLong bs q l is') = absurd cc
one_outcome name limit Means file one a b (Missing p is) (Whole bs q l m) = absurd cc
one_outcome name limit Means file one a b (TooLong bs p l is) (Missing q is') = absurd cc
one_outcome name limit Means file one a b (TooLong bs p l is) (TooLong bs' q l' is') = is ∙ sym is'
one_outcome name limit Means file one a b (TooLong bs p l is) (Whole bs' q l' m) = absurd (let same : bs ≡ bs' = cc in clash limit bs bs' same l l')
one_outcome name limit Means file one a b (Whole bs p l m) (Missing q is') = absurd cc
one_outcome name limit Means file one a b (Whole bs p l m) (TooLong bs' q l' is') = absurd (let same : bs' ≡ bs = cc in clash limit bs' bs same l' l)
one_outcome name limit Means file one a b (Whole bs p l m) (Whole bs' q l' m') =
    let same : bs ≡ bs' = cc in one bs' a b (subst (λ (x : List ℕ). Means x a) same m) m'

pub file_refusal : {X : Type 0} (Q : Plan → Type 0) (name : List ℕ) (limit : ℕ) (Means : List ℕ → Outcome X → Type 0) (file : Option (List ℕ)) (o : Outcome X) → Q (missing_plan) → Q (too_long_plan name limit) → ((bytes : List ℕ) → Means bytes o → OnRefused Q o) → FileMeans name limit Means file o → OnRefused Q o
file_refusal {X} Q name limit Means file o three ten text (Missing p is) = subst (λ (x : Outcome X). OnRefused Q x) (sym is) three
file_refusal {X} Q name limit Means file o three ten text (TooLong bs p l is) = subst (λ (x : Outcome X). OnRefused Q x) (sym is) ten
file_refusal {X} Q name limit Means file o three ten text (Whole bs p l m) = text bs m

-- where a file's bodies are accepted, its bytes mean them
pub file_accepted : (name : List ℕ) (limit : ℕ) (job : Job) (file : Option (List ℕ)) (o : Outcome Setup) (setup : Setup) → FileMeans name limit (MeshMeans job) file o → o ≡ Accepted setup → (bytes : List ℕ) × IsAccepted job bytes setup
file_accepted name limit job file o setup (Missing p is) e = absurd cc
file_accepted name limit job file o setup (TooLong bs p l is) e = absurd cc
file_accepted name limit job file o setup (Whole bs p l m) e = (bs, accepted job bs o setup m e)
