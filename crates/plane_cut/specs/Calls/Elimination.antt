-- Rows from which the third component was eliminated, and what it means that a vector serves them.
use Rattle.std.specs.Prelude.{◌≡◌, ℤ, pos, ◌<ℤ◌, ◌-ℤ◌, ◌*ℤ◌, List, All}
use Rattle.space3.specs.declared.vectors.V3.{V3}
use Rattle.space3.specs.Vectors.{vector, dot_product}

-- how far b lies to the left of a, both seen along the third axis
abbrev pub turn_of : V3 → V3 → ℤ
turn_of a b = a.x *ℤ b.y -ℤ a.y *ℤ b.x

-- the row with 0 as its third component
abbrev pub flattened : V3 → V3
flattened r = vector r.x r.y (pos 0)

-- p.z times q less q.z times p, whose third component is 0
abbrev pub combined : V3 → V3 → V3
combined p q = vector (q.x *ℤ p.z -ℤ p.x *ℤ q.z) (q.y *ℤ p.z -ℤ p.y *ℤ q.z) (pos 0)

-- the row has a positive product with n, if its third component is 0
abbrev pub ServesFlat : V3 → V3 → Type 0
ServesFlat n r = r.z ≡ pos 0 → pos 0 <ℤ dot_product n (flattened r)

-- the combination of p and q has a positive product with n, if q is below 0
abbrev pub ServesPair : V3 → V3 → V3 → Type 0
ServesPair n p q = q.z <ℤ pos 0 → pos 0 <ℤ dot_product n (combined p q)

-- each combination of p with one of the rows has, if p is above 0
abbrev pub ServesPairs : V3 → List V3 → V3 → Type 0
ServesPairs n rows p = pos 0 <ℤ p.z → All (ServesPair n p) rows
