-- Sizes of products of vectors and matrices whose numbers are at most some number.
use Rattle.std.proofs.Common.{ℕ, ◌*◌, ◌^◌, ◌≤◌, ◌<◌, ℤ, ◌+ℤ◌, ◌-ℤ◌, ◌*ℤ◌, unsigned_abs, arith}
use Rattle.whole_laws.proofs.Order.{size_sum, size_diff, size_prod}
use Rattle.space3.specs.declared.vectors.V3.{V3}
use Rattle.space3.specs.Vectors.{AtMost, Within, dot_product, cross_product}
use Rattle.vec_q.specs.Matrices.{M3, adjugate, product_of, sum_of_squares, times_vector, transposed}
use Rattle.vec_q.specs.Widths.{AreBelow, AreWithin, IsBelow}

times : (m n : ℕ) (a b : ℤ) → AtMost m a → AtMost n b → unsigned_abs (a *ℤ b) ≤ m * n
times m n a b h k = size_prod a b m n h.bound k.bound

three : (p q r : ℤ) (k : ℕ) → unsigned_abs p ≤ k → unsigned_abs q ≤ k → unsigned_abs r ≤ k → unsigned_abs (p +ℤ q +ℤ r) ≤ 3 * k
three p q r k hp hq hr = omega (arith, size_sum (p +ℤ q) r, size_sum p q)

two : (p q : ℤ) (k : ℕ) → unsigned_abs p ≤ k → unsigned_abs q ≤ k → unsigned_abs (p -ℤ q) ≤ 2 * k
two p q k hp hq = omega (arith, size_diff p q)

pub dot_size : (m n : ℕ) (a b : V3) → Within m a → Within n b → AtMost (3 * (m * n)) (dot_product a b)
dot_size m n a b h k = record {
  bound = three (a.x *ℤ b.x) (a.y *ℤ b.y) (a.z *ℤ b.z) (m * n) (times m n a.x b.x h.x k.x) (times m n a.y b.y h.y k.y) (times m n a.z b.z h.z k.z);
}

pub cross_size : (m n : ℕ) (a b : V3) → Within m a → Within n b → Within (2 * (m * n)) (cross_product a b)
cross_size m n a b h k = record {
  x = minor a.y b.z a.z b.y h.y k.z h.z k.y;
  y = minor a.z b.x a.x b.z h.z k.x h.x k.z;
  z = minor a.x b.y a.y b.x h.x k.y h.y k.x;
}
  where
    minor : (a b c d : ℤ) → AtMost m a → AtMost n b → AtMost m c → AtMost n d → AtMost (2 * (m * n)) (a *ℤ b -ℤ c *ℤ d)
    minor a b c d ha hb hc hd = record { bound = two (a *ℤ b) (c *ℤ d) (m * n) (times m n a b ha hb) (times m n c d hc hd) }

-- the adjugate of a matrix
pub adjugate_size : (b : ℕ) (m : M3) → AreWithin b m → AreWithin (2 * (b * b)) (adjugate m)
adjugate_size b m h =
    let p = cross_size b b m.second m.third h.second h.third in
    let q = cross_size b b m.third m.first h.third h.first in
    let r = cross_size b b m.first m.second h.first h.second in
    record {
      first = record { x = p.x; y = q.x; z = r.x };
      second = record { x = p.y; y = q.y; z = r.y };
      third = record { x = p.z; y = q.z; z = r.z };
    }

-- a matrix times a vector
pub times_size : (m n : ℕ) (a : M3) (b : V3) → AreWithin m a → Within n b → Within (3 * (m * n)) (times_vector a b)
times_size m n a b h k = record {
  x = dot_size m n (transposed a).first b (record { x = h.first.x; y = h.second.x; z = h.third.x }) k;
  y = dot_size m n (transposed a).second b (record { x = h.first.y; y = h.second.y; z = h.third.y }) k;
  z = dot_size m n (transposed a).third b (record { x = h.first.z; y = h.second.z; z = h.third.z }) k;
}

-- the product of two matrices
pub product_size : (m n : ℕ) (a b : M3) → AreWithin m a → AreWithin n b → AreWithin (3 * (m * n)) (product_of a b)
product_size m n a b h k = record {
  first = times_size m n a b.first h k.first;
  second = times_size m n a b.second h k.second;
  third = times_size m n a b.third h k.third;
}

-- the sum of the squares of all entries
pub squares_size : (b : ℕ) (m : M3) → AreWithin b m → AtMost (3 * (3 * (b * b))) (sum_of_squares m)
squares_size b m h = record {
  bound = three (dot_product m.first m.first) (dot_product m.second m.second) (dot_product m.third m.third) (3 * (b * b))
      (dot_size b b m.first m.first h.first h.first).bound (dot_size b b m.second m.second h.second h.second).bound (dot_size b b m.third m.third h.third h.third).bound;
}

-- what is at most a number is below a greater power of two
pub below : (b k : ℕ) (a : V3) → Within b a → b < 2 ^ k → IsBelow k a
below b k a h l = record { x = each a.x h.x; y = each a.y h.y; z = each a.z h.z }
  where
    each : (a : ℤ) → AtMost b a → unsigned_abs a < 2 ^ k
    each a h = omega (arith, h.bound)

pub are_below : (b k : ℕ) (m : M3) → AreWithin b m → b < 2 ^ k → AreBelow k m
are_below b k m h l = record { first = below b k m.first h.first l; second = below b k m.second h.second l; third = below b k m.third h.third l }
