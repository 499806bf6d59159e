-- The first fault of a text: where in a text a row stands, the first kind of what is wrong with it there, where the next
-- row stands, and what the end of the text is.
use Rattle.std.specs.Prelude.{◌≡◌, ◌++◌, ◌⊎◌, ℕ, zero, suc, nat_lt, List, [], ◌∷◌, length, codes, if◌then◌else◌, Option, Some, None, unwrap_or}
use Rattle.dec_text.specs.declared.Snap.{Snap}
use Rattle.space3.specs.declared.vectors.V3.{V3}
use Rattle.space3.specs.declared.lists.Tet.{Tet}
use Rattle.space3.specs.declared.mesh.Mesh.{Mesh}
use Rattle.mesh_words.specs.declared.kinds.MshKind.{MshKind}
use Rattle.mesh_words.specs.declared.kinds.MshKind.TheVariants.{Truncated, NoFormat, Misplaced, NoTets}
use Rattle.mesh_words.specs.Rows.{Row, is_end, name_of}
use Rattle.msh_rows.specs.declared.sections.Opening.{Opening}
use Rattle.msh_rows.specs.declared.sections.Opening.TheVariants as openings
use Rattle.msh_rows.specs.Rows.{opening_of, count_of, node_of, element_of}
use Rattle.msh_rows.specs.RowKinds.{end_row_kind, format_row_kind, count_row_kind, node_count_row_kind, node_row_kind, element_row_kind}
use Rattle.msh_text.specs.declared.refusal.MshErr.{MshErr}
use Rattle.msh_text.specs.declared.stage.Opened.{Opened}
use Rattle.msh_text.specs.declared.stage.Opened.TheVariants as opened
use Rattle.msh_text.specs.MeshText.{kept}

-- a row with the number of its line
abbrev pub Line : Type 0
Line = ℕ × Row

-- where in a text a row stands; what stands outside knows which of the three sections was the last to open
pub data Stage : Type 0 where
  Outside : (last : Opened) → Stage
  Skipping : (last : Opened) → (name : List ℕ) → Stage
  AtFormat : Stage
  AtFormatEnd : Stage
  AtNodeCount : Stage
  AtNodes : (count : ℕ) → Stage
  AtElementCount : Stage
  AtElements : (left : ℕ) → Stage

-- how coordinates are read, where a row stands, and the mesh so far
pub record Progress : Type 0 where
  pub digits : ℕ
  pub snap : Snap
  pub stage : Stage
  pub mesh : Mesh

abbrev pub mesh_of : List ℕ → List V3 → List Tet → Mesh
mesh_of numbers places tets = record { numbers = numbers; places = places; tets = tets }

abbrev pub start : ℕ → Snap → Progress
start digits snap = record { digits = digits; snap = snap; stage = Outside opened.Nothing; mesh = mesh_of [] [] [] }

-- what is wrong with a row outside of sections: the three come once, the format first, the nodes before the elements
abbrev pub opening_kind : Opening → Opened → Option MshKind
opening_kind openings.Format opened.Nothing = None
opening_kind openings.Format last = Some Misplaced
opening_kind openings.Nodes opened.Nothing = Some NoFormat
opening_kind openings.Nodes opened.Format = None
opening_kind openings.Nodes last = Some Misplaced
opening_kind openings.Elements opened.Nothing = Some NoFormat
opening_kind openings.Elements opened.Nodes = None
opening_kind openings.Elements last = Some Misplaced
opening_kind openings.Other last = None
opening_kind openings.Nothing last = None

-- the first kind of what is wrong with a row
abbrev pub kind_at : ℕ → Snap → Stage → Mesh → Row → Option MshKind
kind_at digits snap (Outside last) mesh row = opening_kind (opening_of row) last
kind_at digits snap (Skipping last name) mesh row = None
kind_at digits snap AtFormat mesh row = format_row_kind row
kind_at digits snap AtFormatEnd mesh row = end_row_kind (codes "$EndMeshFormat") row
kind_at digits snap AtNodeCount mesh row = node_count_row_kind row
kind_at digits snap (AtNodes count) mesh row =
    if nat_lt (length mesh.numbers) count then node_row_kind digits snap mesh.numbers row
    else end_row_kind (codes "$EndNodes") row
kind_at digits snap AtElementCount mesh row = count_row_kind row
kind_at digits snap (AtElements zero) mesh row = end_row_kind (codes "$EndElements") row
kind_at digits snap (AtElements (suc left)) mesh row = element_row_kind mesh.numbers (length mesh.tets) row

unfoldable pub kind_on : Progress → Row → Option MshKind
kind_on p row = kind_at p.digits p.snap p.stage p.mesh row

-- the stage after a row that opens something, or nothing
abbrev pub opens : Opening → Opened → Row → Stage
opens openings.Format last row = AtFormat
opens openings.Nodes last row = AtNodeCount
opens openings.Elements last row = AtElementCount
opens openings.Other last row = Skipping last (name_of row)
opens openings.Nothing last row = Outside last

-- a mesh with one more node, or with an element's tetrahedron, if it is one
abbrev pub with_node : Option (ℕ × V3) → Mesh → Mesh
with_node (Some node) mesh = mesh_of (mesh.numbers ++ node.0 ∷ []) (mesh.places ++ node.1 ∷ []) mesh.tets
with_node None mesh = mesh

abbrev pub with_element : Option (Option Tet) → Mesh → Mesh
with_element (Some element) mesh = mesh_of mesh.numbers mesh.places (mesh.tets ++ kept element)
with_element None mesh = mesh

-- stage and mesh after a row with which nothing is wrong
abbrev pub stage_after : Stage → Mesh → Row → Stage
stage_after (Outside last) mesh row = opens (opening_of row) last row
stage_after (Skipping last name) mesh row = if is_end name row then Outside last else Skipping last name
stage_after AtFormat mesh row = AtFormatEnd
stage_after AtFormatEnd mesh row = Outside opened.Format
stage_after AtNodeCount mesh row = AtNodes (unwrap_or (count_of row) 0)
stage_after (AtNodes count) mesh row =
    if nat_lt (length mesh.numbers) count then AtNodes count else Outside opened.Nodes
stage_after AtElementCount mesh row = AtElements (unwrap_or (count_of row) 0)
stage_after (AtElements zero) mesh row = Outside opened.Elements
stage_after (AtElements (suc left)) mesh row = AtElements left

abbrev pub mesh_after : ℕ → Snap → Stage → Mesh → Row → Mesh
mesh_after digits snap (AtNodes count) mesh row =
    if nat_lt (length mesh.numbers) count then with_node (node_of digits snap row) mesh else mesh
mesh_after digits snap (AtElements (suc left)) mesh row = with_element (element_of mesh.numbers row) mesh
mesh_after digits snap stage mesh row = mesh

abbrev pub progress : ℕ → Snap → Stage → Mesh → Progress
progress digits snap stage mesh = record { digits = digits; snap = snap; stage = stage; mesh = mesh }

unfoldable pub next : Progress → Row → Progress
next p row =
    progress p.digits p.snap (stage_after p.stage p.mesh row) (mesh_after p.digits p.snap p.stage p.mesh row)

-- what the end of a text is: inside of a section it is cut off, outside it lacks the format or tetrahedra
abbrev pub end_at : Stage → List Tet → Option MshKind
end_at (Outside opened.Nothing) tets = Some NoFormat
end_at (Outside last) [] = Some NoTets
end_at (Outside last) (tet ∷ tets) = None
end_at stage tets = Some Truncated

unfoldable pub end_kind : Progress → Option MshKind
end_kind p = end_at p.stage p.mesh.tets

-- rows with which nothing is wrong, from one progress to another
pub data Passes : Progress → List Line → Progress → Type 0 where
  stays : {p : Progress} → Passes p [] p
  goes : {p q : Progress} {line : Line} {lines : List Line} → kind_on p line.1 ≡ None → Passes (next p line.1) lines q → Passes p (line ∷ lines) q

abbrev pub fault_at : ℕ → MshKind → MshErr
fault_at line kind = record { line = line; kind = kind }

-- a row with which something is wrong, after rows with which nothing is: the kind is the first that is tried
pub record FaultOnRow (from : Progress) (lines : List Line) (fault : MshErr) : Type 0 where
  pub before : List Line
  pub line : Line
  pub after : List Line
  pub there : Progress
  pub whole : lines ≡ before ++ line ∷ after
  pub passes : Passes from before there
  pub kind : kind_on there line.1 ≡ Some fault.kind
  pub number : fault.line ≡ line.0

-- nothing is wrong with any row, and the text, whose last line has the number `last`, must not end there
pub record FaultAtEnd (from : Progress) (lines : List Line) (last : ℕ) (fault : MshErr) : Type 0 where
  pub there : Progress
  pub passes : Passes from lines there
  pub kind : end_kind there ≡ Some fault.kind
  pub number : fault.line ≡ last

abbrev pub IsFirstFaultFrom : Progress → List Line → ℕ → MshErr → Type 0
IsFirstFaultFrom from lines last fault = FaultOnRow from lines fault ⊎ FaultAtEnd from lines last fault

-- the first fault of lines, of which the text's last has the number `last`
abbrev pub IsFirstFault : ℕ → Snap → List Line → ℕ → MshErr → Type 0
IsFirstFault digits snap lines last fault = IsFirstFaultFrom (start digits snap) lines last fault
