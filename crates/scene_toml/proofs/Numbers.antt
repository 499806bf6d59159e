-- Numbers in the range of a key.
use Rattle.std.proofs.Common.{◌≡◌, ◌^◌, ◌<◌, ◌≤◌, ℕ, ℤ, pos, negsuc, ◌≤ℤ◌, to_z, of_z, w64, Fits, arith}
use Rattle.std.proofs.lemmas.Int.{ints, to_z-of_z, fits_signed_from_abs}
use Rattle.std.specs.Int.{IsNonNegative}
use Rattle.std.specs.Prelude.{unsigned_abs}
use mir.Syntax.{Width}
use mir.Val.{bits}
use Rattle.whole_laws.specs.Ranges.{IsFrom}

-- a number from 0 to 2^62 stays the same in 64 bits
pub stays : (least most n : ℤ) → IsFrom least most n → pos 0 ≤ℤ least → most ≤ℤ pos (2 ^ 62) → to_z w64 (of_z w64 n) ≡ n
stays least most n h low high =
    let small : unsigned_abs n < 2 ^ 63 = omega (arith, ints, h.low, h.high) in
    to_z-of_z w64 n (fits_signed_from_abs w64 n small)

not_below : (n : ℤ) → pos 0 ≤ℤ n → IsNonNegative n
not_below (pos n) h = tt
not_below (negsuc n) h = absurd (omega (arith, ints, h))

-- a number from 0 on that is below 2^62 and in an unsigned type fits that type
pub fits_unsigned : (w : Width) (least most n : ℤ) (limit : ℕ) → IsFrom least most n → pos 0 ≤ℤ least → most ≤ℤ pos limit → limit ≤ 2 ^ 62 → limit < 2 ^ bits w
    → IsNonNegative (to_z w64 (of_z w64 n)) × Fits w (unsigned_abs (to_z w64 (of_z w64 n)))
fits_unsigned w least most n limit h low high small fits =
    let same = stays least most n h low (omega (arith, ints, high, small)) in
    let size : unsigned_abs n < 2 ^ bits w = omega (arith, ints, h.low, h.high, low, high, fits) in
    rw same (not_below n (omega (arith, ints, h.low, low)), record { fits = size })
