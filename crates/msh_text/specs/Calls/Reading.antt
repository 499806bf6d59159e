-- Reading rows from the first to the last.
use Rattle.std.specs.Prelude.{◌≡◌, ℕ, List, [], ◌∷◌, Option, Some, None, Result, Ok, Err}
use Rattle.dec_text.specs.declared.Snap.{Snap}
use Rattle.space3.specs.declared.mesh.Mesh.{Mesh}
use Rattle.mesh_words.specs.declared.kinds.MshKind.{MshKind}
use Rattle.mesh_words.specs.Rows.{Row}
use Rattle.msh_rows.specs.declared.sections.Opening.{Opening}
use Rattle.msh_text.specs.declared.stage.Opened.{Opened}
use Rattle.msh_text.specs.declared.refusal.MshErr.{MshErr}
use Rattle.msh_text.specs.declared.refusal.ReadMshErr.{ReadMshErr}
use Rattle.msh_text.specs.declared.refusal.ReadMshErr.TheVariants as errors
use Rattle.msh_text.specs.declared.stage.ReaderStage.{ReaderStage}
use Rattle.msh_text.specs.declared.stage.ReaderStage.TheVariants as stages
use Rattle.msh_text.specs.declared.stage.Reader.{Reader}
use Rattle.msh_text.specs.FirstFault.{Line, Stage, Outside, Skipping, AtFormat, AtFormatEnd, AtNodeCount, AtNodes, AtElementCount, AtElements, Progress, progress, opening_kind, opens, mesh_of, kind_on, next, end_kind, fault_at}

-- the fault, or else that value
abbrev pub unless : {X : Type 0} → ℕ → Option MshKind → X → Result X MshErr
unless line (Some kind) x = Err (fault_at line kind)
unless line None x = Ok x

abbrev pub step_by : Option MshKind → ℕ → Result Mesh MshErr → Result Mesh MshErr
step_by (Some kind) line more = Err (fault_at line kind)
step_by None line more = more

-- the mesh, or the first fault
unfoldable pub read : Progress → List Line → ℕ → Result Mesh MshErr
read p [] last = unless last (end_kind p) p.mesh
read p (line ∷ lines) last = step_by (kind_on p line.1) line.0 (read (next p line.1) lines last)

-- where the reader stands
abbrev pub stage_of : ReaderStage → Stage
stage_of (stages.Outside last) = Outside last
stage_of (stages.Skipping last name) = Skipping last name.now
stage_of stages.AtFormat = AtFormat
stage_of stages.AtFormatEnd = AtFormatEnd
stage_of stages.AtNodeCount = AtNodeCount
stage_of (stages.AtNodes nodes) = AtNodes nodes.count
stage_of stages.AtElementCount = AtElementCount
stage_of (stages.AtElements left) = AtElements left

-- the reader's progress, taken to be at that stage
abbrev pub at : Stage → Reader → Progress
at stage reader =
    progress reader.grid.digits reader.grid.snap stage (mesh_of reader.nodes.index reader.nodes.places.items reader.tets.items)

abbrev pub progress_of : Reader → Progress
progress_of reader = at (stage_of reader.stage) reader

-- what a step over a row answered: the next progress where nothing is wrong, or the first kind, with the line's number
abbrev pub StepFails : ReadMshErr → Progress → ℕ → Row → Type 0
StepFails errors.Memory p line row = Unit {0}
StepFails (errors.Text fault) p line row = (kind_on p row ≡ Some fault.kind) × (fault.line ≡ line)

abbrev pub Steps : Result Reader ReadMshErr → Progress → ℕ → Row → Type 0
Steps (Ok reader) p line row = (kind_on p row ≡ None) × (progress_of reader ≡ next p row)
Steps (Err e) p line row = StepFails e p line row

-- what was answered of a row outside of sections
abbrev pub Opens : Result ReaderStage MshKind → Opening → Opened → Row → Type 0
Opens (Ok stage) opening last row = (opening_kind opening last ≡ None) × (stage_of stage ≡ opens opening last row)
Opens (Err kind) opening last row = opening_kind opening last ≡ Some kind

-- what a call answered is what reading gives, unless memory was wanting
abbrev pub Fails : ReadMshErr → Result Mesh MshErr → Type 0
Fails errors.Memory gives = Unit {0}
Fails (errors.Text fault) gives = gives ≡ Err fault

abbrev pub Gives : {X : Type 0} → (X → Mesh) → Result X ReadMshErr → Result Mesh MshErr → Type 0
Gives view (Ok x) gives = gives ≡ Ok (view x)
Gives view (Err e) gives = Fails e gives

-- this mesh, unless memory was wanting
abbrev pub IsMesh : Result Mesh ReadMshErr → Mesh → Type 0
IsMesh (Ok made) mesh = made ≡ mesh
IsMesh (Err e) mesh = e ≡ errors.Memory
