-- What the rows of a mesh text mean.
use Rattle.std.specs.Prelude.{ℕ, ℤ, ◌==◌, ◌+◌, ◌&&◌, not, Bool, true, false, List, [], ◌∷◌, take, drop, length, codes, if◌then◌else◌, Option, Some, None}
use Rattle.std.specs.List.{list_any}
use Rattle.line_fields.specs.Lines.{whole_of, tag_of}
use Rattle.dec_text.specs.declared.Snap.{Snap}
use Rattle.space3.specs.declared.vectors.V3.{V3}
use Rattle.space3.specs.declared.lists.Tet.{Tet}
use Rattle.space3.specs.Vectors.{vector}
use Rattle.mesh_words.specs.declared.elements.ElementType.{ElementType}
use Rattle.mesh_words.specs.declared.elements.ElementType.TheVariants.{Tetrahedron}
use Rattle.mesh_words.specs.Rows.{Row, is_dollar, is_word}
use Rattle.mesh_words.specs.Numbers.{◌>>=◌, number_of, tag_count_of, node_at}
use Rattle.mesh_words.specs.Elements.{element_type_of, node_count}
use Rattle.mesh_words.specs.Kinds.{coordinate_of}
use Rattle.msh_rows.specs.declared.sections.Opening.{Opening}
use Rattle.msh_rows.specs.declared.sections.Opening.TheVariants as openings

-- what a row outside of sections opens
unfoldable pub opening_of : Row → Opening
opening_of row =
    if is_word (codes "$MeshFormat") row then openings.Format
    else if is_word (codes "$Nodes") row then openings.Nodes
    else if is_word (codes "$Elements") row then openings.Elements
    else if is_dollar row then openings.Other
    else openings.Nothing

-- the count on a row of its own
unfoldable pub count_of : Row → Option ℕ
count_of (count ∷ []) = whole_of count
count_of row = None

-- the place of three coordinates
abbrev pub place_at : ℕ → Snap → List ℕ → List ℕ → List ℕ → Option V3
place_at digits snap x y z = do
  x ← coordinate_of x digits snap
  y ← coordinate_of y digits snap
  z ← coordinate_of z digits snap
  Some (vector x y z)

-- the node of a row: its number and its place
unfoldable pub node_of : ℕ → Snap → Row → Option (ℕ × V3)
node_of digits snap (name ∷ x ∷ y ∷ z ∷ []) = do
  number ← number_of name
  place ← place_at digits snap x y z
  Some (number, place)
node_of digits snap row = None

-- what each field is, if each is something
unfoldable pub every : {X : Type 0} → (List ℕ → Option X) → List (List ℕ) → Option (List X)
every of [] = Some []
every of (field ∷ fields) = do
  x ← of field
  xs ← every of fields
  Some (x ∷ xs)

-- an element of that type as a tetrahedron, if it is one
abbrev pub as_tet : ElementType → Tet → Option Tet
as_tet Tetrahedron tet = Some tet
as_tet other tet = None

abbrev pub tet : ℕ → List ℕ → List ℤ → Tet
tet number nodes tags = record { number = number; nodes = nodes; tags = tags }

-- The element of a row, over the nodes of these numbers: its number, type and number of tags, the tags, and as many nodes
-- as the type has. A tetrahedron is kept, and nothing of a point, a line or a triangle.
unfoldable pub element_of : List ℕ → Row → Option (Option Tet)
element_of numbers (name ∷ type ∷ count ∷ rest) = do
  number ← number_of name
  type ← element_type_of type
  tag_count ← tag_count_of count
  tags ← every tag_of (take tag_count rest)
  nodes ← every (node_at numbers) (drop tag_count rest)
  if length rest == tag_count + node_count type then Some (as_tet type (tet number nodes tags)) else None
element_of numbers row = None

-- no number comes twice
unfoldable pub are_different : List ℕ → Bool
are_different [] = true
are_different (n ∷ ns) = not (list_any (λ m. m == n) ns) && are_different ns
