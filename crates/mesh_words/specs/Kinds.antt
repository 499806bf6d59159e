-- What is wrong with a field or a row: kinds that are tried one after the other.
use Rattle.std.specs.Prelude.{◌≡◌, ℕ, ℤ, Bool, List, [], ◌∷◌, Option, Some, None, Result, Ok, Err, if◌then◌else◌}
use Rattle.line_fields.specs.Lines.{whole_of}
use Rattle.dec_text.specs.declared.Snap.{Snap}
use Rattle.dec_text.specs.declared.DecErr.{DecErr}
use Rattle.dec_text.specs.declared.DecErr.TheVariants as decimals
use Rattle.dec_text.specs.Grid.{grid_value}
use Rattle.mesh_words.specs.declared.kinds.MshKind.{MshKind}
use Rattle.mesh_words.specs.declared.kinds.MshKind.TheVariants as kinds
use Rattle.mesh_words.specs.Numbers.{number_of, position_of}
use Rattle.mesh_words.specs.Elements.{type_of_code}

-- the first kind that there is
abbrev pub or_else : Option MshKind → Option MshKind → Option MshKind
or_else (Some kind) more = Some kind
or_else None more = more

abbrev pub first_of : List (Option MshKind) → Option MshKind
first_of [] = None
first_of (kind ∷ kinds) = or_else kind (first_of kinds)

-- the kind, where a test holds
abbrev pub kind_if : Bool → MshKind → Option MshKind
kind_if test kind = if test then Some kind else None

-- the kind, where there is no value
abbrev pub kind_without : {X : Type 0} → Option X → MshKind → Option MshKind
kind_without (Some x) kind = None
kind_without None kind = Some kind

-- what is wrong with a field that has to be a type of elements
abbrev pub code_kind : Option ℕ → Option MshKind
code_kind (Some code) = kind_without (type_of_code code) kinds.ElementType
code_kind None = Some kinds.BadNumber

unfoldable pub type_kind : List ℕ → Option MshKind
type_kind field = code_kind (whole_of field)

-- what is wrong with a field that has to name one of the nodes of these numbers
abbrev pub name_kind : List ℕ → Option ℕ → Option MshKind
name_kind numbers (Some n) = kind_without (position_of numbers n) kinds.UnknownNode
name_kind numbers None = Some kinds.BadNumber

unfoldable pub node_kind : List ℕ → List ℕ → Option MshKind
node_kind numbers field = name_kind numbers (number_of field)

-- what is wrong with a field that has to be a coordinate, and the coordinate
abbrev pub grid_kind : Result ℤ DecErr → Option MshKind
grid_kind (Ok x) = None
grid_kind (Err decimals.NotDecimal) = Some kinds.BadNumber
grid_kind (Err decimals.OffGrid) = Some kinds.OffGrid
grid_kind (Err decimals.OutOfBox) = Some kinds.OutOfBox

abbrev pub place_of_result : Result ℤ DecErr → Option ℤ
place_of_result (Ok x) = Some x
place_of_result (Err e) = None

unfoldable pub coordinate_kind : List ℕ → ℕ → Snap → Option MshKind
coordinate_kind field digits snap = grid_kind (grid_value field digits snap)

unfoldable pub coordinate_of : List ℕ → ℕ → Snap → Option ℤ
coordinate_of field digits snap = place_of_result (grid_value field digits snap)

-- What a call that looks at a field or a row answered: the value, seen by `view`, where nothing is wrong, or else the
-- first kind.
abbrev pub Reads : {X Y : Type 0} → (X → Y) → Result X MshKind → Option MshKind → Option Y → Type 0
Reads view (Ok x) kind value = (kind ≡ None) × (value ≡ Some (view x))
Reads view (Err e) kind value = kind ≡ Some e
