-- The shortest decimal of a place on the grid.
use Rattle.std.specs.Prelude.{◌≡◌, ℕ, zero, suc, ◌+◌, ◌/◌, ◌%◌, ◌^◌, List, [], ◌∷◌, ◌++◌, ℤ, pos, negsuc, ◌==◌, if◌then◌else◌, unsigned_abs, decimal}
use Rattle.dec_text.specs.Decimal.{Decimal, IsDecimal, IsWorth}

-- the digits of rest / 10 ^ digits after the point, up to the last that isn't 0
unfoldable pub fraction_digits : ℕ → ℕ → List ℕ
fraction_digits zero rest = []
fraction_digits (suc digits) rest =
    if rest == 0 then [] else (48 + rest / 10 ^ digits) ∷ fraction_digits digits (rest % 10 ^ digits)

-- a point and these digits, and nothing where rest is 0
abbrev pub fraction_text : ℕ → ℕ → List ℕ
fraction_text digits rest = if rest == 0 then [] else 46 ∷ fraction_digits digits rest

-- `-` where the number is negative
abbrev pub minus_text : ℤ → List ℕ
minus_text (pos n) = []
minus_text (negsuc n) = 45 ∷ []

-- size / 10 ^ digits: the whole part and the fraction
abbrev pub size_text : ℕ → ℕ → List ℕ
size_text size digits = decimal (size / 10 ^ digits) ++ fraction_text digits (size % 10 ^ digits)

-- v / 10 ^ digits
unfoldable pub grid_decimal : ℤ → ℕ → List ℕ
grid_decimal v digits = minus_text v ++ size_text (unsigned_abs v) digits

-- The text is a decimal worth exactly v / 10 ^ digits, and its fraction doesn't end with a 0.
pub record IsDecimalFor (v : ℤ) (digits : ℕ) (text : List ℕ) : Type 0 where
  pub decimal_is : Decimal
  pub is_decimal : IsDecimal text decimal_is
  pub worth : IsWorth decimal_is v digits
  pub no_last_zero : (front : List ℕ) → ¬ (decimal_is.behind ≡ front ++ 48 ∷ [])
