-- A text means a mesh or has a first fault.
use Rattle.std.proofs.Common.{◌≡◌, ◌∙◌, ◌⊎◌, ℕ, length, List, Some, Result, Ok, Err, inl, inr, refl, sym, ap, subst}
use Rattle.line_fields.specs.Lines.{lines, rows, numbered}
use Rattle.line_fields.proofs.Numbered.{numbered-rows}
use Rattle.dec_text.specs.declared.Snap.{Snap}
use Rattle.space3.specs.declared.mesh.Mesh.{Mesh}
use Rattle.msh_text.specs.declared.refusal.MshErr.{MshErr}
use Rattle.msh_text.specs.declared.refusal.ReadMshErr.{ReadMshErr}
use Rattle.msh_text.specs.declared.refusal.ReadMshErr.TheVariants as errors
use Rattle.msh_text.specs.MeshText.{Means}
use Rattle.msh_text.specs.FirstFault.{Line, start, IsFirstFault}
use Rattle.msh_text.specs.Texts.{rows_of, TextMeans, IsTextFault, Refuses}
use Rattle.msh_text.specs.Calls.Reading.{read, Fails}
use Rattle.msh_text.proofs.Gets.{gets-read, ok_of}
use Rattle.msh_text.proofs.FaultsRead.{read-first, first-read, one_first}
use Rattle.msh_text.proofs.ReadIsMeant.{gets-means}
use Rattle.msh_text.proofs.MeantIsRead.{means-gets}

pub means-read : (digits : ℕ) (snap : Snap) (lines : List Line) (last : ℕ) (mesh : Mesh) → read (start digits snap) lines last ≡ Ok mesh → Means digits snap (rows_of lines) mesh
means-read digits snap lines last mesh e = gets-means digits snap (rows_of lines) mesh (sym (gets-read (start digits snap) lines last) ∙ ap ok_of e)

ok_only : (r : Result Mesh MshErr) (mesh : Mesh) → ok_of r ≡ Some mesh → r ≡ Ok mesh
ok_only (Ok made) mesh e = let same : made ≡ mesh = cc in ap (λ (m : Mesh). Ok m) same
ok_only (Err f) mesh e = absurd cc

pub read-means : (digits : ℕ) (snap : Snap) (lines : List Line) (last : ℕ) (mesh : Mesh) → Means digits snap (rows_of lines) mesh → read (start digits snap) lines last ≡ Ok mesh
read-means digits snap lines last mesh m = ok_only (read (start digits snap) lines last) mesh (gets-read (start digits snap) lines last ∙ means-gets digits snap (rows_of lines) mesh m)

either : (digits : ℕ) (snap : Snap) (lines : List Line) (last : ℕ) (r : Result Mesh MshErr) → read (start digits snap) lines last ≡ r
    → ((mesh : Mesh) × Means digits snap (rows_of lines) mesh) ⊎ ((f : MshErr) × IsFirstFault digits snap lines last f)
either digits snap lines last (Ok mesh) e = inl (mesh, means-read digits snap lines last mesh e)
either digits snap lines last (Err f) e = inr (f, first-read (start digits snap) lines last f e)

rows_are : (text : List ℕ) → rows_of (numbered text) ≡ rows text
rows_are text = numbered-rows 1 text

-- ---- of texts

pub text_means-read : (text : List ℕ) (digits : ℕ) (snap : Snap) (mesh : Mesh) → read (start digits snap) (numbered text) (length (lines text)) ≡ Ok mesh → TextMeans text digits snap mesh
text_means-read text digits snap mesh e = subst (λ rs. Means digits snap rs mesh) (rows_are text) (means-read digits snap (numbered text) (length (lines text)) mesh e)

pub read-text_means : (text : List ℕ) (digits : ℕ) (snap : Snap) (mesh : Mesh) → TextMeans text digits snap mesh → read (start digits snap) (numbered text) (length (lines text)) ≡ Ok mesh
read-text_means text digits snap mesh m = read-means digits snap (numbered text) (length (lines text)) mesh (subst (λ rs. Means digits snap rs mesh) (sym (rows_are text)) m)

either_text : (text : List ℕ) (digits : ℕ) (snap : Snap) → ((mesh : Mesh) × Means digits snap (rows_of (numbered text)) mesh) ⊎ ((f : MshErr) × IsTextFault text digits snap f)
    → ((mesh : Mesh) × TextMeans text digits snap mesh) ⊎ ((f : MshErr) × IsTextFault text digits snap f)
either_text text digits snap (inl m) = inl (m.0, subst (λ rs. Means digits snap rs m.0) (rows_are text) m.1)
either_text text digits snap (inr f) = inr f

pub means_or_fault_of : (text : List ℕ) (digits : ℕ) (snap : Snap) → ((mesh : Mesh) × TextMeans text digits snap mesh) ⊎ ((f : MshErr) × IsTextFault text digits snap f)
means_or_fault_of text digits snap = either_text text digits snap (either digits snap (numbered text) (length (lines text)) (read (start digits snap) (numbered text) (length (lines text))) refl)

pub never_both_of : (text : List ℕ) (digits : ℕ) (snap : Snap) (mesh : Mesh) (f : MshErr) → TextMeans text digits snap mesh → IsTextFault text digits snap f → ⊥
never_both_of text digits snap mesh f m h = let a = read-text_means text digits snap mesh m in let b = read-first (start digits snap) (numbered text) (length (lines text)) f h in absurd cc

same_Ok : (r : Result Mesh MshErr) (m n : Mesh) → r ≡ Ok m → r ≡ Ok n → m ≡ n
same_Ok r m n a b = cc

pub one_mesh_of : (text : List ℕ) (digits : ℕ) (snap : Snap) (m n : Mesh) → TextMeans text digits snap m → TextMeans text digits snap n → m ≡ n
one_mesh_of text digits snap m n a b = same_Ok (read (start digits snap) (numbered text) (length (lines text))) m n (read-text_means text digits snap m a) (read-text_means text digits snap n b)

pub one_fault_of : (text : List ℕ) (digits : ℕ) (snap : Snap) (f g : MshErr) → IsTextFault text digits snap f → IsTextFault text digits snap g → f ≡ g
one_fault_of text digits snap f g a b = one_first (start digits snap) (numbered text) (length (lines text)) f g a b

pub refuses : (text : List ℕ) (digits : ℕ) (snap : Snap) (e : ReadMshErr) → Fails e (read (start digits snap) (numbered text) (length (lines text))) → Refuses text digits snap e
refuses text digits snap errors.Memory h = tt
refuses text digits snap (errors.Text f) h = first-read (start digits snap) (numbered text) (length (lines text)) f h
