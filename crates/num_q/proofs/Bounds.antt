-- Sums, differences, products and cuts below a power of two.
use Rattle.std.proofs.Common.{◌≡◌, ℕ, zero, suc, ◌+◌, ◌-◌, ◌*◌, ◌%◌, ◌≤◌, ◌<◌, ◌^◌, ℤ, pos, ◌+ℤ◌, ◌-ℤ◌, ◌*ℤ◌, neg_ℤ, ◌≤ℤ◌, unsigned_abs, sym, ◌∙◌, ap, subst, arith, to_z, of_z, FitsSigned, mul-le-mul}
use Rattle.std.proofs.Math.Pow.{pow_mono}
use Rattle.std.proofs.Math.Nat.{le_refl}
use Rattle.std.proofs.lemmas.Nat.{pow-add, mul-lt, pow_pos, one_shl}
use Rattle.std.proofs.lemmas.Int.{ints, clamps, unsigned_abs-mul, fits_signed_from_abs, to_z-of_z, to_z_pos}
use Rattle.std.specs.Int.{w64, w128, int_min, int_max}
use Rattle.whole_laws.proofs.Order.{size_sum, size_diff}
use Rattle.num_q.specs.Rounding.{cut_of}

abbrev pub back : ℤ → ℤ
back z = to_z w128 (of_z w128 z)

-- x is z, and below 2 ^ k, also after it went to its bits and back
pub record Fine (x z : ℤ) (k : ℕ) : Type 0 where
  pub fits : FitsSigned w128 x
  pub same : back x ≡ z
  pub below : unsigned_abs (back x) < 2 ^ k

small : (z : ℤ) (k : ℕ) → unsigned_abs z < 2 ^ k → k ≤ 126 → FitsSigned w128 z
small z k h l = fits_signed_from_abs w128 z (omega (arith, pow_mono {i = k} {j = 126} l))

pub back-is : (z : ℤ) (k : ℕ) → unsigned_abs z < 2 ^ k → k ≤ 126 → back z ≡ z
back-is z k h l = to_z-of_z w128 z (small z k h l)

pub fine : (x z : ℤ) (k : ℕ) → x ≡ z → unsigned_abs z < 2 ^ k → k ≤ 126 → Fine x z k
fine x z k e h l = let P : ℤ → Type 0 = λ y. Fine y z k in subst P (sym e) (record {
  fits = small z k h l;
  same = back-is z k h l;
  below = rw (back-is z k h l) h;
})

pub sum_below : (a b : ℤ) (m n k : ℕ) → unsigned_abs a < 2 ^ m → unsigned_abs b < 2 ^ n → m < k → n < k → unsigned_abs (a +ℤ b) < 2 ^ k
sum_below a b m n zero h q i j = absurd (omega arith)
sum_below a b m n (suc k) h q i j =
    omega (arith, size_sum a b, pow_mono {i = m} {j = k} (omega arith), pow_mono {i = n} {j = k} (omega arith))

pub sum_fine : (a b : ℤ) (k : ℕ) → unsigned_abs a < 2 ^ k → unsigned_abs b < 2 ^ k → unsigned_abs (a +ℤ b) < 2 ^ k → k ≤ 126 → Fine (back a +ℤ back b) (a +ℤ b) k
sum_fine a b k h q s l = fine _ _ k (λ t. back-is a k h l t +ℤ back-is b k q l t) s l

pub diff_below : (a b : ℤ) (m n k : ℕ) → unsigned_abs a < 2 ^ m → unsigned_abs b < 2 ^ n → m < k → n < k → unsigned_abs (a -ℤ b) < 2 ^ k
diff_below a b m n zero h q i j = absurd (omega arith)
diff_below a b m n (suc k) h q i j =
    omega (arith, size_diff a b, pow_mono {i = m} {j = k} (omega arith), pow_mono {i = n} {j = k} (omega arith))

pub diff_fine : (a b : ℤ) (k : ℕ) → unsigned_abs a < 2 ^ k → unsigned_abs b < 2 ^ k → unsigned_abs (a -ℤ b) < 2 ^ k → k ≤ 126 → Fine (back a -ℤ back b) (a -ℤ b) k
diff_fine a b k h q s l = fine _ _ k (λ t. back-is a k h l t -ℤ back-is b k q l t) s l

pub prod_below : (a b : ℤ) (m n k : ℕ) → unsigned_abs a < 2 ^ m → unsigned_abs b < 2 ^ n → m + n ≤ k → unsigned_abs (a *ℤ b) < 2 ^ k
prod_below a b m n k h q i =
    omega (arith, unsigned_abs-mul a b, mul-lt (unsigned_abs a) (unsigned_abs b) (2 ^ m) (2 ^ n) h q, pow-add 2 m n, pow_mono {i = m + n} {j = k} i)

pub prod_fine : (a b : ℤ) (m n k : ℕ) → unsigned_abs a < 2 ^ m → unsigned_abs b < 2 ^ n → m + n ≤ k → k ≤ 126 → Fine (back a *ℤ back b) (a *ℤ b) k
prod_fine a b m n k h q i l =
    fine _ _ k (λ t. back-is a m h (omega arith) t *ℤ back-is b n q (omega arith) t) (prod_below a b m n k h q i) l

one_shifted : (s : ℕ) → s ≤ 126 → to_z w128 (1 * 2 ^ s % 2 ^ 128) ≡ pos (2 ^ s)
one_shifted s h =
    let b : 2 ^ s < 2 ^ 127 = omega (arith, pow_mono {i = s} {j = 126} h) in
    let e : 1 * 2 ^ s % 2 ^ 128 ≡ 2 ^ s = one_shl s 128 (omega arith) in
    ap (to_z w128) e ∙ to_z_pos w128 (2 ^ s) b

pub scaled_below : (a : ℤ) (m s k : ℕ) → unsigned_abs a < 2 ^ m → m + s ≤ k → unsigned_abs (a *ℤ pos (2 ^ s)) < 2 ^ k
scaled_below a m s k h i =
    let w : suc (unsigned_abs a) * 2 ^ s ≤ 2 ^ m * 2 ^ s = mul-le-mul h (le_refl (2 ^ s)) in
    omega (arith, unsigned_abs-mul a (pos (2 ^ s)), w, pow-add 2 m s, pow_pos s, pow_mono {i = m + s} {j = k} i)

pub scaled_fine : (a : ℤ) (m s k : ℕ) → unsigned_abs a < 2 ^ m → m + s ≤ k → k ≤ 126 → Fine (back a *ℤ to_z w128 (1 * 2 ^ s % 2 ^ 128)) (a *ℤ pos (2 ^ s)) k
scaled_fine a m s k h i l =
    fine _ _ k (λ t. back-is a m h (omega arith) t *ℤ one_shifted s (omega arith) t) (scaled_below a m s k h i) l

-- a number that was cut to 64 bits
pub kept : (x a : ℤ) (m : ℕ) → x ≡ a → unsigned_abs a < 2 ^ m → m ≤ 63 → to_z w64 (of_z w64 x) ≡ a
kept x a m e h l = ap (λ (z : ℤ). to_z w64 (of_z w64 z)) e ∙ to_z-of_z w64 a (fits_signed_from_abs w64 a (omega (arith, pow_mono {i = m} {j = 63} l)))

pub short_fine : (p x y a b : ℤ) (m n k : ℕ) → p ≡ to_z w64 (of_z w64 x) *ℤ to_z w64 (of_z w64 y) → x ≡ a → y ≡ b →
    unsigned_abs a < 2 ^ m → unsigned_abs b < 2 ^ n → m ≤ 63 → n ≤ 63 → m + n ≤ k → k ≤ 126 → Fine p (a *ℤ b) k
short_fine p x y a b m n k e u v h q i j s l =
    fine p (a *ℤ b) k (e ∙ (λ t. kept x a m u h i t *ℤ kept y b n v q j t)) (prod_below a b m n k h q s) l

pub narrow_below : (x y a b : ℤ) (m n : ℕ) → x ≡ a → y ≡ b → unsigned_abs a < 2 ^ m → unsigned_abs b < 2 ^ n → m + n ≤ 63 → unsigned_abs (to_z w64 (of_z w64 x) *ℤ to_z w64 (of_z w64 y)) < 2 ^ 63
narrow_below x y a b m n u v h q s = rw (kept x a m u h (omega arith), kept y b n v q (omega arith)) (prod_below a b m n 63 h q s)

pub narrow_fine : (p x y a b : ℤ) (m n k : ℕ) → p ≡ to_z w64 (of_z w64 x) *ℤ to_z w64 (of_z w64 y) → x ≡ a → y ≡ b →
    unsigned_abs a < 2 ^ m → unsigned_abs b < 2 ^ n → m + n ≤ 63 → m + n ≤ k → k ≤ 126 → Fine (to_z w64 (of_z w64 p)) (a *ℤ b) k
narrow_fine p x y a b m n k e u v h q i s l =
    let product : p ≡ a *ℤ b = e ∙ (λ t. kept x a m u h (omega arith) t *ℤ kept y b n v q (omega arith) t) in
    fine _ (a *ℤ b) k (kept p (a *ℤ b) (m + n) product (prod_below a b m n (m + n) h q (le_refl (m + n))) i) (prod_below a b m n k h q s) l

-- a number of any width is below 2 ^ 126
pub within_all : (a : ℤ) (m : ℕ) → unsigned_abs a < 2 ^ m → m ≤ 126 → unsigned_abs (back a) < 2 ^ 126
within_all a m h l = rw (back-is a m h l) (omega (arith, pow_mono {i = m} {j = 126} l))

size_neg : (a : ℤ) → unsigned_abs (pos 0 -ℤ a) ≡ unsigned_abs a
size_neg a = omega (arith, ints)

neg-is' : (a : ℤ) → pos 0 -ℤ a ≡ neg_ℤ a
neg-is' a = omega (arith, ints)

pub neg_fine : (a : ℤ) (k : ℕ) → unsigned_abs a < 2 ^ k → k ≤ 126 → Fine (pos 0 -ℤ back a) (neg_ℤ a) k
neg_fine a k h l =
    fine _ _ k (ap (λ z. pos 0 -ℤ z) (back-is a k h l) ∙ neg-is' a) (rw (← neg-is' a) (omega (arith, size_neg a))) l

-- ---- a cut
-- 2 ^ s - 1, as it is computed
abbrev pub top_of : ℕ → ℤ
top_of s = to_z w128 (1 * 2 ^ s % 2 ^ 128) -ℤ pos 1

pub top_fine : (s : ℕ) → s ≤ 126 → Fine (top_of s) (pos (2 ^ s - 1)) s
top_fine s h = fine _ _ s (ap (λ z. z -ℤ pos 1) (one_shifted s h) ∙ less_one (2 ^ s) (pow_pos s)) (omega (arith, pow_pos s)) h
  where
    less_one : (n : ℕ) → 0 < n → pos n -ℤ pos 1 ≡ pos (n - 1)
    less_one n p = omega (arith, ints)

pub bottom_fine : (s : ℕ) → s ≤ 126 → Fine (pos 0 -ℤ back (top_of s)) (neg_ℤ (pos (2 ^ s - 1))) s
bottom_fine s h =
    fine _ _ s (ap (λ z. pos 0 -ℤ z) (top_fine s h).same ∙ neg-is' (pos (2 ^ s - 1))) (omega (arith, size_of_neg (2 ^ s - 1), pow_pos s)) h
  where
    size_of_neg : (n : ℕ) → unsigned_abs (neg_ℤ (pos n)) ≡ n
    size_of_neg n = omega (arith, ints)

size_cut : (a : ℤ) (n : ℕ) → unsigned_abs (int_max (neg_ℤ (pos n)) (int_min a (pos n))) ≤ n
size_cut a n = omega (arith, ints, clamps)

pub in_order : (s : ℕ) → s ≤ 126 → back (pos 0 -ℤ back (top_of s)) ≤ℤ back (top_of s)
in_order s h = rw ((bottom_fine s h).same, (top_fine s h).same) (signs (2 ^ s - 1))
  where
    signs : (n : ℕ) → neg_ℤ (pos n) ≤ℤ pos n
    signs n = omega (arith, ints)

pub cut_fine : (a q : ℤ) (m s : ℕ) → unsigned_abs a < 2 ^ m → m ≤ 126 → s ≤ 126 →
    q ≡ int_max (back (pos 0 -ℤ back (top_of s))) (int_min (back a) (back (top_of s))) → Fine q (cut_of s a) s
cut_fine a q m s h l k e =
    fine _ _ s (e ∙ (λ t. int_max ((bottom_fine s k).same t) (int_min (back-is a m h l t) ((top_fine s k).same t)))) (omega (arith, size_cut a (2 ^ s - 1), pow_pos s)) k

pub cut_below : (b : ℕ) (z : ℤ) → unsigned_abs (cut_of b z) < 2 ^ b
cut_below b z = omega (arith, size_cut z (2 ^ b - 1), pow_pos b)

pub cut_same : (b : ℕ) (z : ℤ) → unsigned_abs z < 2 ^ b → cut_of b z ≡ z
cut_same b z h = within z (2 ^ b - 1) (omega arith)
  where
    within : (z : ℤ) (n : ℕ) → unsigned_abs z ≤ n → int_max (neg_ℤ (pos n)) (int_min z (pos n)) ≡ z
    within z n h = omega (arith, ints, clamps)

-- cuts keep the order and the sign
pub cut_mono : (b : ℕ) (y z : ℤ) → y ≤ℤ z → cut_of b y ≤ℤ cut_of b z
cut_mono b y z h = omega (arith, ints, clamps)

pub cut-nonneg : (b : ℕ) (z : ℤ) → pos 0 ≤ℤ z → pos 0 ≤ℤ cut_of b z
cut-nonneg b z h = omega (arith, ints, clamps)
