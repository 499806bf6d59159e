-- The types of elements that are read, by Gmsh's codes.
use Rattle.std.specs.Prelude.{ℕ, ◌==◌, List, Option, Some, None, if◌then◌else◌}
use Rattle.line_fields.specs.Lines.{whole_of}
use Rattle.mesh_words.specs.declared.elements.ElementType.{ElementType}
use Rattle.mesh_words.specs.declared.elements.ElementType.TheVariants.{Point, Line, Triangle, Tetrahedron}
use Rattle.mesh_words.specs.Numbers.{◌>>=◌}

abbrev pub type_of_code : ℕ → Option ElementType
type_of_code code =
    if code == 15 then Some Point
    else if code == 1 then Some Line
    else if code == 2 then Some Triangle
    else if code == 4 then Some Tetrahedron
    else None

-- how many nodes an element of that type has
abbrev pub node_count : ElementType → ℕ
node_count Point = 1
node_count Line = 2
node_count Triangle = 3
node_count Tetrahedron = 4

-- the type whose code a field is
unfoldable pub element_type_of : List ℕ → Option ElementType
element_type_of field = do
  code ← whole_of field
  type_of_code code
