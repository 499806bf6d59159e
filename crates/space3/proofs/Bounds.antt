-- Bounds of sums, differences and products.
use Rattle.std.proofs.Common.{◌≡◌, ℕ, ◌+◌, ◌-◌, ◌*◌, ◌^◌, ◌<◌, ◌≤◌, ℤ, pos, ◌+ℤ◌, ◌-ℤ◌, ◌*ℤ◌, unsigned_abs, ap, arith, lit<, le_refl, w64, to_z, of_z}
use Rattle.std.proofs.lemmas.Int.{ints, to_z_pos}
use Rattle.whole_laws.proofs.Order.{size_sum, size_diff, size_prod, size_back, clean}
use Rattle.space3.specs.declared.vectors.V3.{V3}
use Rattle.space3.specs.Vectors.{AtMost, Within, determinant, difference, multiple, sum_of}

-- a greater bound
pub within_more : (m n : ℕ) (a : V3) → Within m a → m ≤ n → Within n a
within_more m n a h l = record { x = each a.x h.x; y = each a.y h.y; z = each a.z h.z }
  where
    each : (a : ℤ) → AtMost m a → AtMost n a
    each a h = record { bound = omega (arith, h.bound) }

-- a sum of two vectors
pub within-sum : (m n b : ℕ) (a d : V3) → Within m a → Within n d → m + n ≤ b → Within b (sum_of a d)
within-sum m n b a d h k l = record { x = each a.x d.x h.x k.x; y = each a.y d.y h.y k.y; z = each a.z d.z h.z k.z }
  where
    each : (a d : ℤ) → AtMost m a → AtMost n d → AtMost b (a +ℤ d)
    each a d h k = record { bound = omega (arith, size_sum a d, h.bound, k.bound) }

-- a difference of two vectors
pub within-difference : (m n b : ℕ) (a d : V3) → Within m a → Within n d → m + n ≤ b → Within b (difference a d)
within-difference m n b a d h k l = record { x = each a.x d.x h.x k.x; y = each a.y d.y h.y k.y; z = each a.z d.z h.z k.z }
  where
    each : (a d : ℤ) → AtMost m a → AtMost n d → AtMost b (a -ℤ d)
    each a d h k = record { bound = omega (arith, size_diff a d, h.bound, k.bound) }

-- the difference the other way
pub within-turned : (m : ℕ) (a b : V3) → Within m (difference a b) → Within m (difference b a)
within-turned m a b h = record { x = each a.x b.x h.x; y = each a.y b.y h.y; z = each a.z b.z h.z }
  where
    back : (a b : ℤ) → unsigned_abs (a -ℤ b) ≤ m → unsigned_abs (b -ℤ a) ≤ m
    back a b h = omega (arith, ints)

    each : (a b : ℤ) → AtMost m (a -ℤ b) → AtMost m (b -ℤ a)
    each a b h = record { bound = back a b h.bound }

-- a determinant of three vectors: six products of three components
pub determinant_size : (m b : ℕ) (a d e : V3) → Within m a → Within m d → Within m e → 3 * (m * (m * m + m * m)) ≤ b → AtMost b (determinant a d e)
determinant_size m b a d e h k l room =
    three (times h.x (minor k.y l.z k.z l.y)) (times h.y (minor k.z l.x k.x l.z)) (times h.z (minor k.x l.y k.y l.x))
  where
    minor : {p q r s : ℤ} → AtMost m p → AtMost m q → AtMost m r → AtMost m s → AtMost (m * m + m * m) (p *ℤ q -ℤ r *ℤ s)
    minor {p} {q} {r} {s} h k l t = record { bound = less (p *ℤ q) (r *ℤ s) (m * m) (size_prod p q m m h.bound k.bound) (size_prod r s m m l.bound t.bound) }
      where
        less : (a b : ℤ) (n : ℕ) → unsigned_abs a ≤ n → unsigned_abs b ≤ n → unsigned_abs (a -ℤ b) ≤ n + n
        less a b n h k = omega (arith, size_diff a b)

    times : {p q : ℤ} → AtMost m p → AtMost (m * m + m * m) q → AtMost (m * (m * m + m * m)) (p *ℤ q)
    times {p} {q} h k = record { bound = size_prod p q m (m * m + m * m) h.bound k.bound }

    three : {p q r : ℤ} → AtMost (m * (m * m + m * m)) p → AtMost (m * (m * m + m * m)) q → AtMost (m * (m * m + m * m)) r → AtMost b (p +ℤ q +ℤ r)
    three {p} {q} {r} h k l = record { bound = sum p q r (m * (m * m + m * m)) h.bound k.bound l.bound room }
      where
        sum : (p q r : ℤ) (n : ℕ) → unsigned_abs p ≤ n → unsigned_abs q ≤ n → unsigned_abs r ≤ n → 3 * n ≤ b → unsigned_abs (p +ℤ q +ℤ r) ≤ b
        sum p q r n h k l room = omega (arith, size_sum (p +ℤ q) r, size_sum p q)

-- a product that goes to its bits and back
pub product_size : (k : ℕ) (a : ℤ) → k < 2 ^ 16 → unsigned_abs a ≤ 2 ^ 20 → unsigned_abs (to_z w64 (of_z w64 (to_z w64 k *ℤ to_z w64 (of_z w64 a)))) ≤ k * 2 ^ 20
product_size k a h l =
    rw (clean w64 a (2 ^ 20) l (lit< tt), to_z_pos w64 k (omega arith))
    (size_back w64 (pos k *ℤ a) (k * 2 ^ 20) (k * 2 ^ 20) (size_prod (pos k) a k (2 ^ 20) (le_refl k) l) (omega arith) (le_refl (k * 2 ^ 20)))

-- a multiple by a difference of natural numbers
pub multiple-less : (p q : ℕ) (a : V3) → p ≤ q → multiple (pos (q - p)) a ≡ multiple (pos q -ℤ pos p) a
multiple-less p q a h = ap (λ (k : ℤ). multiple k a) (less_nat p q h)
  where
    less_nat : (p q : ℕ) → p ≤ q → pos (q - p) ≡ pos q -ℤ pos p
    less_nat p q h = omega (arith, ints)
