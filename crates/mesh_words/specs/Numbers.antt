-- Numbers in a mesh text: of nodes, of elements and of tags, and where a number stands in a list.
use Rattle.std.specs.Prelude.{ℕ, suc, ◌==◌, nat_le, List, [], ◌∷◌, Option, Some, None, option_map, if◌then◌else◌}
use Rattle.line_fields.specs.Lines.{whole_of}
use Rattle.space3.specs.declared.mesh.TheConstants.{TAG_LIMIT}

infixl 10 ◌>>=◌
abbrev pub ◌>>=◌ : {A B : Type 0} → Option A → (A → Option B) → Option B
(Some x) >>= f = f x
None >>= f = None

-- the number of a node or of an element: a whole number of at least 1
unfoldable pub number_of : List ℕ → Option ℕ
number_of field = do
  n ← whole_of field
  if nat_le 1 n then Some n else None

-- how many tags an element has
unfoldable pub tag_count_of : List ℕ → Option ℕ
tag_count_of field = do
  n ← whole_of field
  if nat_le n TAG_LIMIT then Some n else None

-- where a number stands in a list, counted from 0
unfoldable pub position_of : List ℕ → ℕ → Option ℕ
position_of [] n = None
position_of (m ∷ ms) n = if m == n then Some 0 else option_map suc (position_of ms n)

-- the position of the node that a field names, among nodes of these numbers
unfoldable pub node_at : List ℕ → List ℕ → Option ℕ
node_at numbers field = do
  n ← number_of field
  position_of numbers n
