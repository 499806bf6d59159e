-- The order of whole numbers under products, and the sizes of sums and products.
use Rattle.std.proofs.Common.{◌≡◌, ℕ, zero, suc, ◌+◌, ◌*◌, ◌≤◌, ◌<◌, ◌^◌, ℤ, pos, negsuc, ◌+ℤ◌, ◌-ℤ◌, ◌*ℤ◌, ◌≤ℤ◌, ◌<ℤ◌, unsigned_abs, sym, subst, arith, mul-le-mul}
use Rattle.std.proofs.lemmas.Int.{ints, unsigned_abs-mul, fits_signed_from_abs, to_z-of_z}
use Rattle.std.specs.Int.{Width}
use mir.Val.{hbits}
use Rattle.std.proofs.Common.{to_z, of_z}
use borrow.Author.Differences.{below_in, lt_out}

-- a product of positive naturals
below_both : (m n : ℕ) → 0 < m → 0 < n → 0 < m * n
below_both m n h k = omega (arith, mul-le-mul h k)

-- a product of positive numbers is positive
pub mul_pos_ℤ : (a b : ℤ) → pos 0 <ℤ a → pos 0 <ℤ b → pos 0 <ℤ (a *ℤ b)
mul_pos_ℤ (pos a) (pos b) h k = below_in (pos 0) (pos (a * b)) (omega (arith, below_both a b (omega (arith, lt_out _ _ h)) (omega (arith, lt_out _ _ k))))
mul_pos_ℤ (pos a) (negsuc b) h k = absurd (omega (arith, ints))
mul_pos_ℤ (negsuc a) b h k = absurd (omega (arith, ints))

-- a product of numbers that are not negative is not negative
pub mul_nonneg_ℤ : (a b : ℤ) → pos 0 ≤ℤ a → pos 0 ≤ℤ b → pos 0 ≤ℤ (a *ℤ b)
mul_nonneg_ℤ (pos a) (pos b) h k = omega (arith, ints)
mul_nonneg_ℤ (pos a) (negsuc b) h k = absurd (omega (arith, ints))
mul_nonneg_ℤ (negsuc a) b h k = absurd (omega (arith, ints))

-- a square is not negative
pub sq_nonneg_ℤ : (a : ℤ) → pos 0 ≤ℤ (a *ℤ a)
sq_nonneg_ℤ a = grind (arith, ints)

-- the absolute value of a sum
pub size_sum : (a b : ℤ) → unsigned_abs (a +ℤ b) ≤ unsigned_abs a + unsigned_abs b
size_sum a b = omega (arith, ints)

-- the absolute value of a difference
pub size_diff : (a b : ℤ) → unsigned_abs (a -ℤ b) ≤ unsigned_abs a + unsigned_abs b
size_diff a b = omega (arith, ints)

-- the absolute value of a product, from bounds of its factors
pub size_prod : (a b : ℤ) (m n : ℕ) → unsigned_abs a ≤ m → unsigned_abs b ≤ n → unsigned_abs (a *ℤ b) ≤ m * n
size_prod a b m n h k = omega (arith, unsigned_abs-mul a b, mul-le-mul h k)

-- cancel a positive factor of a positive product
pub pos_of_mul_ℤ : (a b : ℤ) → pos 0 <ℤ a → pos 0 <ℤ (a *ℤ b) → pos 0 <ℤ b
pos_of_mul_ℤ a (pos zero) h k = absurd (omega (arith, ints))
pos_of_mul_ℤ a (pos (suc b)) h k = omega (arith, ints)
pos_of_mul_ℤ (pos a) (negsuc b) h k = absurd (omega (arith, ints))
pos_of_mul_ℤ (negsuc a) (negsuc b) h k = absurd (omega (arith, ints))

-- a number that goes to its bits and back
pub clean : (w : Width) (z : ℤ) (b : ℕ) → unsigned_abs z ≤ b → b < 2 ^ hbits w → to_z w (of_z w z) ≡ z
clean w z b h k = to_z-of_z w z (fits_signed_from_abs w z (omega arith))

-- the size of a product that a call answers
pub size_times : (v w : Width) (r a b : ℤ) (m n : ℕ) → r ≡ to_z v (of_z v a) *ℤ to_z w (of_z w b) → unsigned_abs a ≤ m → m < 2 ^ hbits v → unsigned_abs b ≤ n → n < 2 ^ hbits w → unsigned_abs r ≤ m * n
size_times v w r a b m n e h p k q =
    subst (λ z. unsigned_abs z ≤ m * n) (sym e) (rw (clean v a m h p, clean w b n k q) (size_prod a b m n h k))

-- the size of a sum that a call answers
pub size_plus : (w : Width) (r a b : ℤ) (m n : ℕ) → r ≡ to_z w (of_z w a) +ℤ to_z w (of_z w b) → unsigned_abs a ≤ m → m < 2 ^ hbits w → unsigned_abs b ≤ n → n < 2 ^ hbits w → unsigned_abs r ≤ m + n
size_plus w r a b m n e h p k q =
    let s : unsigned_abs (a +ℤ b) ≤ m + n = omega (arith, size_sum a b) in
    subst (λ z. unsigned_abs z ≤ m + n) (sym e) (rw (clean w a m h p, clean w b n k q) s)

-- the size of a difference that a call answers
pub size_minus : (w : Width) (r a b : ℤ) (m n : ℕ) → r ≡ to_z w (of_z w a) -ℤ to_z w (of_z w b) → unsigned_abs a ≤ m → m < 2 ^ hbits w → unsigned_abs b ≤ n → n < 2 ^ hbits w → unsigned_abs r ≤ m + n
size_minus w r a b m n e h p k q =
    let s : unsigned_abs (a -ℤ b) ≤ m + n = omega (arith, size_diff a b) in
    subst (λ z. unsigned_abs z ≤ m + n) (sym e) (rw (clean w a m h p, clean w b n k q) s)

-- a bound on a number that goes to its bits and back
pub size_back : (w : Width) (z : ℤ) (m n : ℕ) → unsigned_abs z ≤ m → m < 2 ^ hbits w → m ≤ n → unsigned_abs (to_z w (of_z w z)) ≤ n
size_back w z m n h k l = rw (clean w z m h k) (omega arith)

-- the sizes of sums, differences and products, for `omega` and `grind`
pub ruleset sizes = (to_z-of_z, size_sum, size_diff, unsigned_abs-mul)

-- cancel a positive factor of a product that is not negative
pub nonneg_of_mul_ℤ : (a b : ℤ) → pos 0 <ℤ a → pos 0 ≤ℤ (a *ℤ b) → pos 0 ≤ℤ b
nonneg_of_mul_ℤ a (pos b) h k = omega (arith, ints)
nonneg_of_mul_ℤ (pos zero) (negsuc b) h k = absurd (omega (arith, ints))
nonneg_of_mul_ℤ (pos (suc a)) (negsuc b) h k = absurd (omega (arith, ints))
nonneg_of_mul_ℤ (negsuc a) (negsuc b) h k = absurd (omega (arith, ints))

-- an order as a difference that is not negative
pub nonneg_from_le : (a b : ℤ) → a ≤ℤ b → pos 0 ≤ℤ (b -ℤ a)
nonneg_from_le a b h = omega (arith, ints)

-- a difference that is not negative as an order
pub le_from_nonneg : (a b : ℤ) → pos 0 ≤ℤ (b -ℤ a) → a ≤ℤ b
le_from_nonneg a b h = omega (arith, ints)

-- a sum of numbers that are not negative
pub add_nonneg_ℤ : (a b : ℤ) → pos 0 ≤ℤ a → pos 0 ≤ℤ b → pos 0 ≤ℤ (a +ℤ b)
add_nonneg_ℤ a b h k = omega (arith, ints)

-- a sum of a number that is not negative and a positive one
pub add_pos_ℤ : (a b : ℤ) → pos 0 ≤ℤ a → pos 0 <ℤ b → pos 0 <ℤ (a +ℤ b)
add_pos_ℤ a b h k = omega (arith, ints)

-- a positive number is not negative
pub nonneg_of_pos : (a : ℤ) → pos 0 <ℤ a → pos 0 ≤ℤ a
nonneg_of_pos a h = omega (arith, ints)
