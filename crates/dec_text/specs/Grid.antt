-- The place of a decimal on a grid with a number of digits after the point.
use Rattle.std.specs.Prelude.{◌≡◌, ℕ, ◌+◌, ◌*◌, ◌/◌, ◌%◌, ◌<◌, ◌≤◌, Bool, List, Option, Some, None, Result, Ok, Err, ℤ, nat_le, ◌==◌, if◌then◌else◌}
use Rattle.dec_text.specs.Decimal.{Decimal, IsDecimal, numerator, denominator, with_sign}
use Rattle.dec_text.specs.Calls.Reader.{decimal_of}
use Rattle.dec_text.specs.declared.TheConstants.{GREATEST_SIZE}
use Rattle.dec_text.specs.declared.Snap.{Snap}
use Rattle.dec_text.specs.declared.Snap.TheVariants.{Nearest, Exact}
use Rattle.dec_text.specs.declared.DecErr.{DecErr}
use Rattle.dec_text.specs.declared.DecErr.TheVariants.{NotDecimal, OffGrid, OutOfBox}

-- n with its sign where it is in the box
abbrev pub place_in_box : Bool → ℕ → Result ℤ DecErr
place_in_box negative n = if nat_le n GREATEST_SIZE then Ok (with_sign negative n) else Err OutOfBox

-- n / d where it is whole, or the whole number nearest to it, where a half goes up
abbrev pub snapped_place : Bool → ℕ → ℕ → Snap → Result ℤ DecErr
snapped_place negative n d Exact = if n % d == 0 then place_in_box negative (n / d) else Err OffGrid
snapped_place negative n d Nearest = place_in_box negative ((2 * n + d) / (2 * d))

-- The place of a decimal times 10 ^ digits. The size is snapped before it has its sign, so a half goes away from zero.
abbrev pub place_on_grid : Option Decimal → ℕ → Snap → Result ℤ DecErr
place_on_grid None digits snap = Err NotDecimal
place_on_grid (Some d) digits snap =
    snapped_place d.negative (numerator d digits) (denominator d) snap

-- the same of a text
unfoldable pub grid_value : List ℕ → ℕ → Snap → Result ℤ DecErr
grid_value text digits snap = place_on_grid (decimal_of text) digits snap

-- m is n / d, or the whole number nearest to it, where the greater of two is taken
abbrev pub IsSnapped : Snap → ℕ → ℕ → ℕ → Type 0
IsSnapped Exact n d m = m * d ≡ n
IsSnapped Nearest n d m = (2 * n < (2 * m + 1) * d) × (2 * m * d ≤ 2 * n + d)

-- m is what the decimal's size times 10 ^ digits snaps to
abbrev pub IsSizeOf : Decimal → ℕ → Snap → ℕ → Type 0
IsSizeOf d digits snap m = IsSnapped snap (numerator d digits) (denominator d) m

-- the place's size is what the decimal's size times 10 ^ digits snaps to, in the box, and its sign is the decimal's
pub record IsPlaceOf (d : Decimal) (digits : ℕ) (snap : Snap) (place : ℤ) : Type 0 where
  pub size : ℕ
  pub is_size : IsSizeOf d digits snap size
  pub in_the_box : size ≤ GREATEST_SIZE
  pub signed : place ≡ with_sign d.negative size

-- What an answer says of a text: the place of the decimal that it is, or why it has none.
abbrev pub IsAnswer : List ℕ → ℕ → Snap → Result ℤ DecErr → Type 0
IsAnswer text digits snap (Ok place) =
    (d : Decimal) × IsDecimal text d × IsPlaceOf d digits snap place
IsAnswer text digits snap (Err NotDecimal) = (d : Decimal) → ¬ IsDecimal text d
IsAnswer text digits snap (Err OffGrid) =
    (d : Decimal) × IsDecimal text d × ((m : ℕ) → ¬ IsSizeOf d digits snap m)
IsAnswer text digits snap (Err OutOfBox) =
    (d : Decimal) × IsDecimal text d × ((m : ℕ) × IsSizeOf d digits snap m × (GREATEST_SIZE < m))
