-- Vectors of whole numbers of any size, and their products.
use Rattle.std.specs.Prelude.{ℕ, ◌≤◌, ℤ, pos, ◌+ℤ◌, ◌-ℤ◌, ◌*ℤ◌, unsigned_abs}
use Rattle.space3.specs.declared.vectors.V3.{V3}

abbrev pub vector : ℤ → ℤ → ℤ → V3
vector x y z = record { x = x; y = y; z = z }

abbrev pub origin : V3
origin = vector (pos 0) (pos 0) (pos 0)

abbrev pub sum_of : V3 → V3 → V3
sum_of a b = vector (a.x +ℤ b.x) (a.y +ℤ b.y) (a.z +ℤ b.z)

abbrev pub difference : V3 → V3 → V3
difference a b = vector (a.x -ℤ b.x) (a.y -ℤ b.y) (a.z -ℤ b.z)

abbrev pub multiple : ℤ → V3 → V3
multiple k a = vector (k *ℤ a.x) (k *ℤ a.y) (k *ℤ a.z)

-- the place at p / q of the straight way from a to b, times q
abbrev pub between : ℕ → ℕ → V3 → V3 → V3
between p q a b = sum_of (multiple (pos q -ℤ pos p) a) (multiple (pos p) b)

abbrev pub dot_product : V3 → V3 → ℤ
dot_product a b = a.x *ℤ b.x +ℤ a.y *ℤ b.y +ℤ a.z *ℤ b.z

-- the square of the length
abbrev pub squared_length : V3 → ℤ
squared_length a = dot_product a a

abbrev pub cross_product : V3 → V3 → V3
cross_product a b =
    vector (a.y *ℤ b.z -ℤ a.z *ℤ b.y) (a.z *ℤ b.x -ℤ a.x *ℤ b.z) (a.x *ℤ b.y -ℤ a.y *ℤ b.x)

-- a · (b × c), the signed volume of the box that the three span
abbrev pub determinant : V3 → V3 → V3 → ℤ
determinant a b c = dot_product a (cross_product b c)

-- at most b in absolute value
pub record AtMost (b : ℕ) (a : ℤ) : Type 0 where
  pub bound : unsigned_abs a ≤ b

-- each component is at most b in absolute value
pub record Within (b : ℕ) (a : V3) : Type 0 where
  pub x : AtMost b a.x
  pub y : AtMost b a.y
  pub z : AtMost b a.z
