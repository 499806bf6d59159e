-- The reader's loop.
use Rattle.std.proofs.Common.{◌≡◌, ◌∙◌, ℕ, List, [], ◌∷◌, Some, None, Result, Ok, Err, sym, ap}
use Rattle.mesh_words.specs.declared.kinds.MshKind.{MshKind}
use Rattle.space3.specs.declared.mesh.Mesh.{Mesh}
use Rattle.msh_text.specs.declared.refusal.MshErr.{MshErr}
use Rattle.msh_text.specs.declared.refusal.ReadMshErr.{ReadMshErr}
use Rattle.msh_text.specs.declared.refusal.ReadMshErr.TheVariants as errors
use Rattle.mesh_words.specs.Rows.{Row}
use Rattle.msh_text.specs.FirstFault.{Line, Progress, kind_on, next, end_kind, fault_at}
use Rattle.msh_text.specs.Calls.Reading.{read, StepFails, Fails, Gives, IsMesh}
use Rattle.msh_text.proofs.FaultsRead.{read-on, read-fault, read-end, same_fault}

-- one row more
pub goes_on : (total : Result Mesh MshErr) (last : ℕ) (p q : Progress) (line : ℕ) (row : Row) (lines more : List Line) → total ≡ read p lines last → lines ≡ (line, row) ∷ more → kind_on p row ≡ None → q ≡ next p row → total ≡ read q more last
goes_on total last p q line row lines more so_far e none at =
    so_far ∙ ap (λ (ls : List Line). read p ls last) e ∙ read-on p (line, row) more last none ∙ ap (λ (r : Progress). read r more last) (sym at)

-- a row with a fault
pub fails : (total : Result Mesh MshErr) (last : ℕ) (p : Progress) (line : ℕ) (row : Row) (lines more : List Line) (e : ReadMshErr) → total ≡ read p lines last → lines ≡ (line, row) ∷ more → StepFails e p line row → Fails e total
fails total last p line row lines more errors.Memory so_far e h = tt
fails total last p line row lines more (errors.Text f) so_far e h =
    so_far ∙ ap (λ (ls : List Line). read p ls last) e ∙ read-fault p (line, row) more last f.kind h.0 ∙ ap Err (same_fault f line h.1)

-- the end
pub ends : (total : Result Mesh MshErr) (last : ℕ) (p : Progress) (lines : List Line) → total ≡ read p lines last → lines ≡ [] → end_kind p ≡ None → total ≡ Ok p.mesh
ends total last p lines so_far e none = so_far ∙ ap (λ (ls : List Line). read p ls last) e ∙ read-end p last None none

pub ends_so : (total : Result Mesh MshErr) (last : ℕ) (p : Progress) (lines : List Line) (kind : MshKind) → total ≡ read p lines last → lines ≡ [] → end_kind p ≡ Some kind → total ≡ Err (fault_at last kind)
ends_so total last p lines kind so_far e some = so_far ∙ ap (λ (ls : List Line). read p ls last) e ∙ read-end p last (Some kind) some

-- the mesh that has been read
pub gives_mesh : (total : Result Mesh MshErr) (mesh : Mesh) (r : Result Mesh ReadMshErr) → total ≡ Ok mesh → IsMesh r mesh → Gives (λ m. m) r total
gives_mesh total mesh (Ok made) e h = e ∙ ap (λ (m : Mesh). Ok m) (sym h)
gives_mesh total mesh (Err errors.Memory) e h = tt
gives_mesh total mesh (Err (errors.Text f)) e h = absurd cc
