-- A decimal: how it is written, and what it is worth.
use Rattle.std.specs.Prelude.{◌≡◌, ℕ, suc, ◌+◌, ◌*◌, ◌^◌, ◌⊎◌, Bool, true, false, List, [], ◌∷◌, ◌++◌, length, ℤ, pos, negsuc, neg_ℤ, unsigned_abs, if◌then◌else◌}
use Rattle.std.specs.Str.Parse.{IsNumeral, digits_value}

-- a sign, the digits before and after the point, and an exponent
pub record Decimal : Type 0 where
  pub negative : Bool
  pub before : List ℕ
  pub behind : List ℕ
  pub exponent : ℤ

-- `-` where it is negative, and else `+` or nothing
abbrev pub IsSign : Bool → List ℕ → Type 0
IsSign true sign = sign ≡ 45 ∷ []
IsSign false sign = (sign ≡ []) ⊎ (sign ≡ 43 ∷ [])

-- n with a sign
abbrev pub with_sign : Bool → ℕ → ℤ
with_sign negative n = if negative then neg_ℤ (pos n) else pos n

-- a point, or nothing where no digit stands behind it
abbrev pub IsPoint : List ℕ → List ℕ → Type 0
IsPoint behind point = (point ≡ 46 ∷ []) ⊎ ((point ≡ []) × (behind ≡ []))

-- `e` or `E`, a sign or none, and digits, which are the exponent
pub record IsPower (exponent : ℤ) (power : List ℕ) : Type 0 where
  pub mark : ℕ
  pub negative : Bool
  pub sign : List ℕ
  pub digits : List ℕ
  pub power_is : power ≡ mark ∷ (sign ++ digits)
  pub mark_is : (mark ≡ 101) ⊎ (mark ≡ 69)
  pub is_sign : IsSign negative sign
  pub is_numeral : IsNumeral 10 digits
  pub exponent_is : exponent ≡ with_sign negative (digits_value 10 digits)

-- The text is this decimal: a sign or none, digits with at most one point among, before or after them, one digit at least, and a power of ten. Where none is written the exponent is 0.
pub record IsDecimal (text : List ℕ) (d : Decimal) : Type 0 where
  pub sign : List ℕ
  pub point : List ℕ
  pub power : List ℕ
  pub text_is : text ≡ sign ++ ((d.before ++ (point ++ d.behind)) ++ power)
  pub is_sign : IsSign d.negative sign
  pub is_numeral : IsNumeral 10 (d.before ++ d.behind)
  pub point_is : IsPoint d.behind point
  pub power_is : ((power ≡ []) × (d.exponent ≡ pos 0)) ⊎ IsPower d.exponent power

-- an exponent above 0, and one below 0 without its sign
abbrev pub tens_up : ℤ → ℕ
tens_up (pos n) = n
tens_up (negsuc n) = 0

abbrev pub tens_down : ℤ → ℕ
tens_down (pos n) = 0
tens_down (negsuc n) = suc n

-- Without its sign and times 10 ^ digits the decimal is numerator / denominator: all its digits are one whole number, from which the digits behind the point and the exponent shift the point.
unfoldable pub numerator : Decimal → ℕ → ℕ
numerator d digits = digits_value 10 (d.before ++ d.behind) * 10 ^ (digits + tens_up d.exponent)

unfoldable pub denominator : Decimal → ℕ
denominator d = 10 ^ (length d.behind + tens_down d.exponent)

-- it is worth exactly v / 10 ^ digits
pub record IsWorth (d : Decimal) (v : ℤ) (digits : ℕ) : Type 0 where
  pub size : unsigned_abs v * denominator d ≡ numerator d digits
  pub sign : v ≡ with_sign d.negative (unsigned_abs v)
