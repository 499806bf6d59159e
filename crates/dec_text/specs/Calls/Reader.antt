-- A text as the parts of a decimal, found from its first mark and its first point.
use Rattle.std.specs.Prelude.{ℕ, Bool, ◌&&◌, ◌||◌, not, List, ◌++◌, length, nat_lt, ◌==◌, if◌then◌else◌, Option, Some, None}
use Rattle.std.specs.Char.{is_ascii_digit}
use Rattle.std.specs.List.{list_all, list_any, before_first, after_first}
use Rattle.std.specs.Str.Parse.{digits_value, signed_digits_value, without_leading_sign, starts_with_minus}
use Rattle.dec_text.specs.Decimal.{Decimal}

-- the point
abbrev pub is_point : ℕ → Bool
is_point b = b == 46

-- `e` or `E`, the mark before an exponent
abbrev pub is_mark : ℕ → Bool
is_mark b = b == 101 || b == 69

-- one digit or more, and nothing else
abbrev pub is_numeral : List ℕ → Bool
is_numeral bs = nat_lt 0 (length bs) && list_all is_ascii_digit bs

-- what stands before the mark, and the same without its sign
abbrev pub mantissa : List ℕ → List ℕ
mantissa text = before_first is_mark text

abbrev pub unsigned_mantissa : List ℕ → List ℕ
unsigned_mantissa text = without_leading_sign (mantissa text)

-- what stands before the point, and what stands behind it
abbrev pub digits_before : List ℕ → List ℕ
digits_before text = before_first is_point (unsigned_mantissa text)

abbrev pub digits_behind : List ℕ → List ℕ
digits_behind text = after_first is_point (unsigned_mantissa text)

-- what stands behind the mark: the exponent with its sign
abbrev pub exponent_text : List ℕ → List ℕ
exponent_text text = after_first is_mark text

-- the size of the exponent
unfoldable pub exponent_size : List ℕ → ℕ
exponent_size text = digits_value 10 (without_leading_sign (exponent_text text))

-- digits stand before and behind the point, one at least, and an exponent has digits behind its sign
unfoldable pub is_decimal : List ℕ → Bool
is_decimal text =
    is_numeral (digits_before text ++ digits_behind text)
    && (not (list_any is_mark text) || is_numeral (without_leading_sign (exponent_text text)))

-- the parts of a text, whether it is a decimal or not
abbrev pub decimal_parts : List ℕ → Decimal
decimal_parts text = record {
  negative = starts_with_minus (mantissa text);
  before = digits_before text;
  behind = digits_behind text;
  exponent = signed_digits_value 10 (exponent_text text);
}

-- the decimal that a text is, if it is one
unfoldable pub decimal_of : List ℕ → Option Decimal
decimal_of text = if is_decimal text then Some (decimal_parts text) else None
