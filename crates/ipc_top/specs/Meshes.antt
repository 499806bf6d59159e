-- What comes of a mesh's text.
use Rattle.std.specs.Prelude.{◌≡◌, ℕ, List, [], map, Option, Ok, Err}
use Rattle.std.specs.Option.{option_map_or}
use Rattle.space3.specs.declared.mesh.Mesh.{Mesh}
use Rattle.boundary.specs.declared.refusal.SurfErr.{SurfErr}
use Rattle.boundary.specs.declared.refusal.SurfErr.TheVariants as surfaces
use Rattle.boundary.specs.Outcomes.{IsSurfaceOutcome}
use Rattle.boundary.specs.Surface.{SurfaceLists}
use Rattle.surface_mesh.specs.declared.setup.Setup.{Setup}
use Rattle.surface_mesh.specs.declared.materials.Numbers.{Numbers}
use Rattle.surface_mesh.specs.Setup.{setup_of}
use Rattle.mesh_check.specs.declared.defects.Defect.{Defect}
use Rattle.mesh_check.specs.Defects.{IsFirstDefect}
use Rattle.msh_text.specs.declared.refusal.MshErr.{MshErr}
use Rattle.msh_text.specs.Texts.{TextMeans, IsTextFault}
use Rattle.report_text.specs.declared.line.Line.TheVariants as lines
use Rattle.ipc_top.specs.Files.{Outcome, Accepted, Refused}
use Rattle.ipc_top.specs.Jobs.{Job}
use Rattle.ipc_top.specs.Numbered.{defect_line, tet_number}
use Rattle.ipc_top.specs.Plans.{Plan, plan_of, refusal}

-- a text is refused for its first fault
abbrev pub mesh_refused_plan : MshErr → Plan
mesh_refused_plan fault = refusal (lines.MeshText fault) 6

-- a mesh is refused for its surface; want of memory is no refusal
abbrev pub surface_refused_plan : Mesh → SurfErr → Plan
surface_refused_plan mesh surfaces.Memory = plan_of [] 6
surface_refused_plan mesh (surfaces.FaceThrice tets) = refusal (lines.FaceThrice (map (tet_number mesh) tets)) 6
surface_refused_plan mesh (surfaces.FaceSame tets) = refusal (lines.FaceSame (map (tet_number mesh) tets)) 6
surface_refused_plan mesh (surfaces.TooManyTriangles count) = refusal (lines.Triangles count) 6

-- bodies are refused for a defect
abbrev pub defect_plan : Setup → Defect → Plan
defect_plan setup defect = refusal (defect_line setup defect) 7

-- bodies are refused for the defect that was found, if there is one
abbrev pub outcome_of : Setup → Option Defect → Outcome Setup
outcome_of setup found = option_map_or (λ defect. Refused (defect_plan setup defect)) found (Accepted setup)

-- this comes of bodies: they are looked through for their first defect
pub record SetupMeans (setup : Setup) (outcome : Outcome Setup) : Type 0 where
  pub found : Option Defect
  pub first : IsFirstDefect setup found
  pub same : outcome ≡ outcome_of setup found

-- this comes of a mesh: its surface is refused, or what the mesh and its surface make with these numbers is looked
-- through
pub data MeshMakes (numbers : Numbers) (mesh : Mesh) (outcome : Outcome Setup) : Type 0 where
  NoSurface : (err : SurfErr) → IsSurfaceOutcome mesh (Err err)
      → outcome ≡ Refused (surface_refused_plan mesh err) → MeshMakes numbers mesh outcome
  Bodies : (surface : SurfaceLists) → IsSurfaceOutcome mesh (Ok surface)
      → SetupMeans (setup_of mesh surface numbers) outcome → MeshMakes numbers mesh outcome

-- this comes of the text of a job's mesh, read on the job's grid: it has a first fault, or what its mesh makes
pub data MeshMeans (job : Job) (bytes : List ℕ) (outcome : Outcome Setup) : Type 0 where
  NoMesh : (fault : MshErr) → IsTextFault bytes job.digits job.snap fault
      → outcome ≡ Refused (mesh_refused_plan fault) → MeshMeans job bytes outcome
  OfMesh : (mesh : Mesh) → TextMeans bytes job.digits job.snap mesh
      → MeshMakes job.numbers mesh outcome → MeshMeans job bytes outcome
