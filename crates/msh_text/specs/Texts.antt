-- What a text means, and its first fault.
use Rattle.std.specs.Prelude.{ℕ, List, map, length}
use Rattle.line_fields.specs.Lines.{lines, rows, numbered}
use Rattle.dec_text.specs.declared.Snap.{Snap}
use Rattle.space3.specs.declared.mesh.Mesh.{Mesh}
use Rattle.mesh_words.specs.Rows.{Row}
use Rattle.msh_text.specs.declared.refusal.MshErr.{MshErr}
use Rattle.msh_text.specs.declared.refusal.ReadMshErr.{ReadMshErr}
use Rattle.msh_text.specs.declared.refusal.ReadMshErr.TheVariants as errors
use Rattle.msh_text.specs.MeshText.{Means}
use Rattle.msh_text.specs.FirstFault.{Line, IsFirstFault}

-- the rows of lines
abbrev pub rows_of : List Line → List Row
rows_of lines = map (λ line. line.1) lines

-- the text means this mesh, on the grid of so many digits
abbrev pub TextMeans : List ℕ → ℕ → Snap → Mesh → Type 0
TextMeans text digits snap mesh = Means digits snap (rows text) mesh

-- this is the text's first fault; its last line has as its number how many lines there are
abbrev pub IsTextFault : List ℕ → ℕ → Snap → MshErr → Type 0
IsTextFault text digits snap fault = IsFirstFault digits snap (numbered text) (length (lines text)) fault

-- memory was wanting, or the refusal is the text's first fault
abbrev pub Refuses : List ℕ → ℕ → Snap → ReadMshErr → Type 0
Refuses text digits snap errors.Memory = Unit {0}
Refuses text digits snap (errors.Text fault) = IsTextFault text digits snap fault
