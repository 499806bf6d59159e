-- What is wrong with a row: the kinds in the order in which they are tried, each with its test.
use Rattle.std.specs.Prelude.{◌≡◌, ℕ, ◌==◌, ◌+◌, not, nat_le, nat_lt, Bool, false, List, [], ◌∷◌, map, take, drop, length, codes, Option, Some, None, is_some, unwrap_or, Result, Ok, Err}
use Rattle.std.specs.Str.{bytes_eq}
use Rattle.line_fields.specs.Lines.{whole_of, tag_of}
use Rattle.dec_text.specs.declared.Snap.{Snap}
use Rattle.space3.specs.declared.lists.Tet.{Tet}
use Rattle.space3.specs.declared.mesh.TheConstants.{NODE_LIMIT, TET_LIMIT}
use Rattle.mesh_words.specs.declared.elements.ElementType.{ElementType}
use Rattle.mesh_words.specs.declared.kinds.MshKind.{MshKind}
use Rattle.mesh_words.specs.declared.kinds.MshKind.TheVariants.{BadCount, Fields, Version, Binary, BadNumber, TooManyNodes, DuplicateNode, RepeatedNode, TooManyTets}
use Rattle.mesh_words.specs.Rows.{Row, field_at, is_dollar, is_word}
use Rattle.mesh_words.specs.Numbers.{number_of, tag_count_of, node_at}
use Rattle.mesh_words.specs.Elements.{element_type_of, node_count}
use Rattle.mesh_words.specs.Kinds.{first_of, kind_if, kind_without, type_kind, node_kind, coordinate_kind}
use Rattle.msh_rows.specs.declared.elements.RowErr.{RowErr}
use Rattle.msh_rows.specs.declared.elements.RowErr.TheVariants as errors
use Rattle.msh_rows.specs.Rows.{count_of, element_of, are_different}

-- where the end of a section is wanted, with that word
unfoldable pub end_row_kind : List ℕ → Row → Option MshKind
end_row_kind word row = kind_if (not (is_word word row)) BadCount

-- the format: version 2.2, text, and the size of its numbers
unfoldable pub format_row_kind : Row → Option MshKind
format_row_kind row = first_of (
    kind_if (is_dollar row) BadCount
    ∷ kind_if (not (length row == 3)) Fields
    ∷ kind_if (not (bytes_eq (field_at row 0) (codes "2.2"))) Version
    ∷ kind_if (bytes_eq (field_at row 1) (codes "1")) Binary
    ∷ kind_if (not (bytes_eq (field_at row 1) (codes "0"))) BadNumber
    ∷ kind_without (whole_of (field_at row 2)) BadNumber
    ∷ [])

-- a count
unfoldable pub count_row_kind : Row → Option MshKind
count_row_kind row = first_of (
    kind_if (is_dollar row) BadCount
    ∷ kind_if (not (length row == 1)) Fields
    ∷ kind_without (whole_of (field_at row 0)) BadNumber
    ∷ [])

-- the count of the nodes
unfoldable pub node_count_row_kind : Row → Option MshKind
node_count_row_kind row = first_of (
    count_row_kind row
    ∷ kind_if (nat_lt NODE_LIMIT (unwrap_or (count_of row) 0)) TooManyNodes
    ∷ [])

-- three coordinates
abbrev pub place_kind : ℕ → Snap → List ℕ → List ℕ → List ℕ → Option MshKind
place_kind digits snap x y z = first_of (
    coordinate_kind x digits snap
    ∷ coordinate_kind y digits snap
    ∷ coordinate_kind z digits snap
    ∷ [])

-- a node, after nodes of these numbers
unfoldable pub node_row_kind : ℕ → Snap → List ℕ → Row → Option MshKind
node_row_kind digits snap numbers row = first_of (
    kind_if (is_dollar row) BadCount
    ∷ kind_if (not (length row == 4)) Fields
    ∷ kind_without (number_of (field_at row 0)) BadNumber
    ∷ kind_if (is_some (node_at numbers (field_at row 0))) DuplicateNode
    ∷ place_kind digits snap (field_at row 1) (field_at row 2) (field_at row 3)
    ∷ [])

-- how many fields an element of that type with so many tags has
abbrev pub field_count_of : Option ElementType → Option ℕ → ℕ
field_count_of (Some type) (Some tags) = 3 + (tags + node_count type)
field_count_of type tags = 0

-- an element up to its tags
unfoldable pub head_kind : Row → Option MshKind
head_kind row = first_of (
    kind_if (is_dollar row) BadCount
    ∷ kind_if (nat_lt (length row) 3) Fields
    ∷ kind_without (number_of (field_at row 0)) BadNumber
    ∷ type_kind (field_at row 1)
    ∷ kind_without (tag_count_of (field_at row 2)) BadNumber
    ∷ kind_if (not (length row == field_count_of (element_type_of (field_at row 1)) (tag_count_of (field_at row 2)))) Fields
    ∷ [])

abbrev pub tag_kind : List ℕ → Option MshKind
tag_kind field = kind_without (tag_of field) BadNumber

-- the fields of an element's tags and of its nodes
abbrev pub tag_fields : Row → List (List ℕ)
tag_fields row = take (unwrap_or (tag_count_of (field_at row 2)) 0) (drop 3 row)

abbrev pub node_fields : Row → List (List ℕ)
node_fields row = drop (unwrap_or (tag_count_of (field_at row 2)) 0) (drop 3 row)

-- the four nodes of a tetrahedron, after so many tetrahedra
abbrev pub corner_kind : ℕ → List ℕ → Option MshKind
corner_kind tets corners = first_of (
    kind_if (not (are_different corners)) RepeatedNode
    ∷ kind_if (nat_le TET_LIMIT tets) TooManyTets
    ∷ [])

-- an element that is a tetrahedron
abbrev pub tet_kind : ℕ → Option (Option Tet) → Option MshKind
tet_kind tets (Some (Some tet)) = corner_kind tets tet.nodes
tet_kind tets (Some None) = None
tet_kind tets None = None

-- an element, over the nodes of these numbers and after so many tetrahedra
unfoldable pub element_row_kind : List ℕ → ℕ → Row → Option MshKind
element_row_kind numbers tets row = first_of (
    head_kind row
    ∷ first_of (map tag_kind (tag_fields row))
    ∷ first_of (map (node_kind numbers) (node_fields row))
    ∷ tet_kind tets (element_of numbers row)
    ∷ [])

-- what a call answered that reads nothing from a row: nothing is wrong, or else the first kind
abbrev pub IsFree : Result (Unit {0}) MshKind → Option MshKind → Type 0
IsFree (Ok u) kind = kind ≡ None
IsFree (Err e) kind = kind ≡ Some e

-- the same of a call that may want memory
abbrev pub FailsRow : RowErr → Option MshKind → Type 0
FailsRow errors.Memory kind = Unit {0}
FailsRow (errors.Kind e) kind = kind ≡ Some e

-- what a call that reads an element answered
abbrev pub ReadsRow : Result (Option Tet) RowErr → Option MshKind → Option (Option Tet) → Type 0
ReadsRow (Ok element) kind value = (kind ≡ None) × (value ≡ Some element)
ReadsRow (Err e) kind value = FailsRow e kind
