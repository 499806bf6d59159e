-- Sums of vectors.
use Rattle.std.proofs.Common.{◌≡◌, ℤ, pos, ◌+ℤ◌, arith}
use Rattle.std.proofs.lemmas.Int.{ints}
use Rattle.space3.specs.declared.vectors.V3.{V3}
use Rattle.space3.specs.Vectors.{origin, sum_of, vector}

pub sum_of-origin : (a : V3) → sum_of a origin ≡ a
sum_of-origin a = λ i. vector (each a.x i) (each a.y i) (each a.z i)
  where
    each : (a : ℤ) → a +ℤ pos 0 ≡ a
    each a = omega (arith, ints)

pub origin-sum_of : (a : V3) → sum_of origin a ≡ a
origin-sum_of a = λ i. vector (each a.x i) (each a.y i) (each a.z i)
  where
    each : (a : ℤ) → pos 0 +ℤ a ≡ a
    each a = omega (arith, ints)

pub sum_of-assoc : (a b c : V3) → sum_of (sum_of a b) c ≡ sum_of a (sum_of b c)
sum_of-assoc a b c = λ i. vector (each a.x b.x c.x i) (each a.y b.y c.y i) (each a.z b.z c.z i)
  where
    each : (a b c : ℤ) → (a +ℤ b) +ℤ c ≡ a +ℤ (b +ℤ c)
    each a b c = omega (arith, ints)
