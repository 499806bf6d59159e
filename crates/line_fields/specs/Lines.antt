-- The lines of a text, the fields of a line, and the whole numbers that fields are.
-- A byte is a number and a text a list of bytes.
use Rattle.std.specs.Prelude.{◌≡◌, ◌⊎◌, ◌==◌, ◌||◌, ◌&&◌, ℕ, ℤ, pos, neg_ℤ, Bool, true, false, List, [], ◌∷◌, map, filter, length, nat_le, drop, slice_index, if◌then◌else◌, Option, Some, None, option_map}
use Rattle.std.specs.List.{enumerate_from, slice_split}
use Rattle.std.specs.Str.{all_ascii_digits}
use Rattle.std.specs.Str.Parse.{digits_value}
use Rattle.line_fields.specs.declared.numbers.TheConstants.{DIGIT_LIMIT, WHOLE_LIMIT}

-- space, tab and carriage return
abbrev pub is_blank : ℕ → Bool
is_blank b = b == 32 || b == 9 || b == 13

abbrev pub is_line_feed : ℕ → Bool
is_line_feed b = b == 10

-- the list has something in it
abbrev pub is_filled : {X : Type 0} → List X → Bool
is_filled [] = false
is_filled (x ∷ xs) = true

-- the bytes up to each line feed or the end; the last line is what follows the last line feed, perhaps nothing
unfoldable pub lines : List ℕ → List (List ℕ)
lines text = slice_split is_line_feed text

-- the longest runs of bytes that aren't blank
unfoldable pub fields : List ℕ → List (List ℕ)
fields line = filter is_filled (slice_split is_blank line)

-- the lines that have a field, each as its fields
unfoldable pub rows : List ℕ → List (List (List ℕ))
rows text = filter is_filled (map fields (lines text))

-- the one row of a line that has a field, and none of another
unfoldable pub row_of : List ℕ → List (List (List ℕ))
row_of line = filter is_filled (fields line ∷ [])

-- Where a line stands in a text: after so many lines, and before the rest of the text, which is what follows the
-- line's line feed, and nothing where it has none.
abbrev pub IsLineAfter : ℕ → List ℕ → List ℕ → List ℕ → Type 0
IsLineAfter before text line rest =
    (drop before (lines text) ≡ line ∷ lines rest) ⊎ ((drop before (lines text) ≡ line ∷ []) × (rest ≡ []))

-- the first line of a text, and the text after it
abbrev pub IsFirstLine : List ℕ → List ℕ → List ℕ → Type 0
IsFirstLine text line rest = IsLineAfter 0 text line rest

-- a line with its number, as its fields
abbrev pub with_fields : ℕ × List ℕ → ℕ × List (List ℕ)
with_fields line = (line.0, fields line.1)

-- the rows, each with the number of its line, where the text's first line has the number `first`
unfoldable pub numbered_from : ℕ → List ℕ → List (ℕ × List (List ℕ))
numbered_from first text = map with_fields (filter (λ line. is_filled (fields line.1)) (enumerate_from first (lines text)))

-- the rows, each with the number of its line, counted from 1
abbrev pub numbered : List ℕ → List (ℕ × List (List ℕ))
numbered text = numbered_from 1 text

-- ASCII digits, at least one and at most ten
abbrev pub is_unsigned : List ℕ → Bool
is_unsigned field = is_filled field && nat_le (length field) DIGIT_LIMIT && all_ascii_digits field

-- the number that one to ten digits write, with leading zeros or without
unfoldable pub unsigned_of : List ℕ → Option ℕ
unsigned_of field = if is_unsigned field then Some (digits_value 10 field) else None

-- one to ten ASCII digits of a whole number, which is below 2^31
unfoldable pub is_whole : List ℕ → Bool
is_whole field = is_unsigned field && nat_le (digits_value 10 field) WHOLE_LIMIT

-- the whole number that a field is
unfoldable pub whole_of : List ℕ → Option ℕ
whole_of field = if is_whole field then Some (digits_value 10 field) else None

-- the whole number that a field is, perhaps with a `-` before it
unfoldable pub tag_of : List ℕ → Option ℤ
tag_of field = if slice_index field 0 == 45 then option_map (λ n. neg_ℤ (pos n)) (whole_of (drop 1 field)) else option_map pos (whole_of field)
