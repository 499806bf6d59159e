-- Quotients below a power of two, and the nearest one.
use Rattle.std.proofs.Common.{◌≡◌, ℕ, zero, suc, ◌+◌, ◌*◌, ◌/◌, ◌%◌, ◌≤◌, ◌<◌, ◌^◌, ℤ, pos, negsuc, ◌*ℤ◌, ◌<ℤ◌, unsigned_abs, sym, ◌∙◌, ap, subst, arith, to_z, of_z, FitsSigned, lit≤, min, inl, inr}
use Rattle.std.proofs.Math.Pow.{pow_mono}
use Rattle.std.proofs.Math.Nat.{div-eq_of_lt, div-lt_iff_lt-mul}
use Rattle.std.proofs.lemmas.Nat.{pow-add, pow_pos}
use Rattle.std.proofs.lemmas.Int.{ints, fits_signed_from_abs}
use Rattle.std.proofs.lemmas.Bool.{cases_lt}
use Rattle.std.specs.Int.{w64, w128, int_shr, int_div_euclid}
use lib.Signed.{mag}
use Rattle.whole_laws.proofs.Floors.{shr-is, floor_size}
use Rattle.num_q.specs.Rounding.{floor_of}
use Rattle.num_q.proofs.Bounds.{Fine, back, back-is, fine, kept, scaled_below, scaled_fine}

-- ---- a shift to the right
pub shr_fine : (a : ℤ) (m n s : ℕ) → unsigned_abs a < 2 ^ m → m ≤ n → n ≤ 126 → Fine (int_shr (back a) s) (int_shr a s) n
shr_fine a m n s h i l =
    let p : pos 0 <ℤ pos (2 ^ s) = omega (arith, ints, pow_pos s) in
    let q : unsigned_abs (int_shr a s) < 2 ^ n = rw (shr-is a s) (omega (arith, floor_size a (pos (2 ^ s)) p, pow_mono {i = m} {j = n} i)) in
    fine _ _ n (ap (λ z. int_shr z s) (back-is a m h (omega arith))) q l

-- the quotient q of what `scaled_fine` speaks of, by a divisor above 0
pub floor_fine : (a d q : ℤ) (m n s k : ℕ) → unsigned_abs a < 2 ^ m → unsigned_abs d < 2 ^ n → n ≤ 126 → pos 0 <ℤ d → m + s ≤ k → k ≤ 126 →
    q ≡ int_div_euclid (back (back a *ℤ to_z w128 (1 * 2 ^ s % 2 ^ 128))) (back d) → Fine q (int_div_euclid (a *ℤ pos (2 ^ s)) d) k
floor_fine a d q m n s k h hd nn p i l e =
    let f = scaled_fine a m s k h i l in
    let w : unsigned_abs (int_div_euclid (a *ℤ pos (2 ^ s)) d) < 2 ^ k = omega (arith, floor_size (a *ℤ pos (2 ^ s)) d p, scaled_below a m s k h i) in
    fine q _ k (e ∙ (λ t. int_div_euclid (f.same t) (back-is d n hd nn t))) w l

-- the same within 64 bits
pub short_scaled_fits : (a : ℤ) (m s : ℕ) → unsigned_abs a < 2 ^ m → m + s ≤ 63 → FitsSigned w64 (back (back a *ℤ to_z w128 (1 * 2 ^ s % 2 ^ 128)))
short_scaled_fits a m s h i =
    let same = (scaled_fine a m s 63 h i (lit≤ tt)).same in
    subst (FitsSigned w64) (sym same) (fits_signed_from_abs w64 (a *ℤ pos (2 ^ s)) (scaled_below a m s 63 h i))

pub short_floor_fine : (a d y q : ℤ) (m n s k : ℕ) → unsigned_abs a < 2 ^ m → unsigned_abs d < 2 ^ n → m + s ≤ 63 → n ≤ 63 → pos 0 <ℤ d → m + s ≤ k → k ≤ 126 → y ≡ d →
    q ≡ floor_of (to_z w64 (of_z w64 (back (back a *ℤ to_z w128 (1 * 2 ^ s % 2 ^ 128))))) (to_z w64 (of_z w64 y)) → Fine (to_z w64 (of_z w64 q)) (floor_of (a *ℤ pos (2 ^ s)) d) k
short_floor_fine a d y q m n s k h hd i j p r l u e =
    let z = a *ℤ pos (2 ^ s) in
    let small : unsigned_abs z < 2 ^ 63 = scaled_below a m s 63 h i in
    let top = kept _ z 63 (scaled_fine a m s 63 h i (lit≤ tt)).same small (lit≤ tt) in
    let quotient : q ≡ floor_of z d = e ∙ (λ t. floor_of (top t) (kept y d n u hd j t)) in
    let size = floor_size z d p in
    fine _ (floor_of z d) k (kept q (floor_of z d) 63 quotient (omega (arith, size, small)) (lit≤ tt)) (omega (arith, size, scaled_below a m s k h r)) l

-- a shift by more than 127 places is one by 127
far : (a n : ℕ) → a < 2 ^ 127 → 127 ≤ n → a / 2 ^ n ≡ a / 2 ^ 127
far a n h l = div-eq_of_lt (omega (arith, h, pow_mono {i = 127} {j = n} l)) ∙ sym (div-eq_of_lt h)

mag_below : (z : ℤ) (m : ℕ) → unsigned_abs z < 2 ^ m → m ≤ 126 → mag z < 2 ^ 127
mag_below (pos a) m h l = omega (arith, pow_mono {i = m} {j = 126} l)
mag_below (negsuc a) m h l = omega (arith, pow_mono {i = m} {j = 126} l)

shr_far : (z : ℤ) (n : ℕ) → mag z < 2 ^ 127 → 127 ≤ n → int_shr z 127 ≡ int_shr z n
shr_far (pos a) n h l = ap pos (sym (far a n h l))
shr_far (negsuc a) n h l = ap negsuc (sym (far a n h l))

shr_min : (z : ℤ) (m n : ℕ) → unsigned_abs z < 2 ^ m → m ≤ 126 → int_shr z (min n 127) ≡ int_shr z n
shr_min z m n h l = elim (cases_lt n 127) [
  | inl k ↦ ap (int_shr z) (below n k)
  | inr k ↦ ap (int_shr z) (above n k) ∙ shr_far z n (mag_below z m h l) k
]
  where
    below : (n : ℕ) → n < 127 → min n 127 ≡ n
    below n k = omega arith

    above : (n : ℕ) → 127 ≤ n → min n 127 ≡ 127
    above n k = omega arith

pub down_fine : (a : ℤ) (m n s by : ℕ) → unsigned_abs a < 2 ^ m → m ≤ n → n ≤ 126 → by ≡ min s 127 → Fine (int_shr (back a) by) (floor_of a (pos (2 ^ s))) n
down_fine a m n s by h i l e =
    let f = shr_fine a m n by h i l in
    let g : int_shr a by ≡ floor_of a (pos (2 ^ s)) = ap (int_shr a) e ∙ shr_min a m s h (omega arith) ∙ shr-is a s in
    subst (λ (z : ℤ). Fine (int_shr (back a) by) z n) g f

-- ---- a shift that makes narrower
quotient_below : (a d p : ℕ) → 0 < d → a < p * d → a / d < p
quotient_below a d p h k = (div-lt_iff_lt-mul {k = d} {x = a} {y = p} h).1 k

size_floor : (z : ℤ) (d p : ℕ) → 0 < d → unsigned_abs z < p * d → unsigned_abs (floor_of z (pos d)) ≤ p
size_floor z zero p h k = absurd (omega arith)
size_floor (pos a) (suc d) p h k = omega (arith, quotient_below a (suc d) p h k)
size_floor (negsuc a) (suc d) p h k = omega (arith, quotient_below a (suc d) p h (omega arith))

shift_below : (z : ℤ) (m k s : ℕ) → unsigned_abs z < 2 ^ m → m < k + s → 0 < k → unsigned_abs (floor_of z (pos (2 ^ s))) < 2 ^ k
shift_below z m zero s h l p = absurd (omega arith)
shift_below z m (suc k) s h l p =
    let b : unsigned_abs z < 2 ^ k * 2 ^ s = omega (arith, h, pow-add 2 k s, pow_mono {i = m} {j = k + s} (omega arith)) in
    omega (arith, size_floor z (2 ^ s) (2 ^ k) (pow_pos s) b, pow-add 2 k 1, pow_pos k)

pub shift_fine : (a : ℤ) (m k s : ℕ) → unsigned_abs a < 2 ^ m → m ≤ 126 → m < k + s → 0 < k → k ≤ 126 → Fine (int_shr (back a) s) (floor_of a (pos (2 ^ s))) k
shift_fine a m k s h w l p v = fine _ _ k (ap (λ z. int_shr z s) (back-is a m h w) ∙ shr-is a s) (shift_below a m k s h l p) v
