-- Rows of a mesh text: its lines that have a field, each as the list of its fields. The first field says what a row is.
use Rattle.std.specs.Prelude.{ℕ, ◌==◌, Bool, false, List, [], ◌∷◌, ◌++◌, drop, slice_index, slice_index_or, codes}
use Rattle.std.specs.Str.{bytes_eq}

abbrev pub Row : Type 0
Row = List (List ℕ)

-- the field at a place, counted from 0
abbrev pub field_at : Row → ℕ → List ℕ
field_at row place = slice_index_or row place []

-- the first field begins with `$`
unfoldable pub is_dollar : Row → Bool
is_dollar [] = false
is_dollar (field ∷ fields) = slice_index field 0 == 36

-- the first field is this word, whatever follows it
unfoldable pub is_word : List ℕ → Row → Bool
is_word word [] = false
is_word word (field ∷ fields) = bytes_eq field word

-- the name of the section that a row opens: the first field without the `$` at its front
unfoldable pub name_of : Row → List ℕ
name_of [] = []
name_of (field ∷ fields) = drop 1 field

-- the row ends the section of that name: the first field is `$End` and the name
abbrev pub is_end : List ℕ → Row → Bool
is_end name row = is_word (codes "$End" ++ name) row
