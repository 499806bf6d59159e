-- Vectors and matrices whose numbers are small.
use Rattle.std.specs.Prelude.{ℕ, ◌^◌, ◌<◌, unsigned_abs}
use Rattle.space3.specs.declared.vectors.V3.{V3}
use Rattle.space3.specs.Vectors.{Within}
use Rattle.vec_q.specs.Matrices.{M3}

-- each component is below 2^b in absolute value
pub record IsBelow (b : ℕ) (a : V3) : Type 0 where
  pub x : unsigned_abs a.x < 2 ^ b
  pub y : unsigned_abs a.y < 2 ^ b
  pub z : unsigned_abs a.z < 2 ^ b

-- each entry is below 2^b in absolute value
pub record AreBelow (b : ℕ) (m : M3) : Type 0 where
  pub first : IsBelow b m.first
  pub second : IsBelow b m.second
  pub third : IsBelow b m.third

-- each entry is at most b in absolute value
pub record AreWithin (b : ℕ) (m : M3) : Type 0 where
  pub first : Within b m.first
  pub second : Within b m.second
  pub third : Within b m.third
