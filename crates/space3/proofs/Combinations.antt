-- Sums of multiples of vectors, and squared lengths.
use Rattle.std.proofs.Common.{◌≡◌, ℤ, pos, ◌+ℤ◌, ◌-ℤ◌, ◌*ℤ◌, ◌≤ℤ◌, [], ◌∷◌}
use Rattle.space3.specs.declared.vectors.V3.{V3}
use Rattle.space3.specs.Vectors.{vector, sum_of, multiple, dot_product, cross_product, squared_length}
use Rattle.space3.proofs.VectorForms.{components, at, ◌⊕₃◌, ◌⊗₃◌, cross, dot}
use Rattle.whole_laws.proofs.Ring.{ring, v, ◌⊕◌, ◌⊖◌, ◌⊗◌}
use Rattle.whole_laws.proofs.Order.{sq_nonneg_ℤ, add_nonneg_ℤ}

-- i·a + j·b
abbrev pub mixed : ℤ → ℤ → V3 → V3 → V3
mixed i j a b = sum_of (multiple i a) (multiple j b)

pub same_vector : (a b : V3) → a.x ≡ b.x → a.y ≡ b.y → a.z ≡ b.z → a ≡ b
same_vector a b e f g i = vector (e i) (f i) (g i)

pub dot-mixed : (n a b : V3) (i j : ℤ) → dot_product n (mixed i j a b) ≡ i *ℤ dot_product n a +ℤ j *ℤ dot_product n b
dot-mixed n a b i j =
    ring (i ∷ j ∷ components (n ∷ a ∷ b ∷ []))
    (dot (at 2) (v 0 ⊗₃ at 5 ⊕₃ v 1 ⊗₃ at 8)) (v 0 ⊗ dot (at 2) (at 5) ⊕ v 1 ⊗ dot (at 2) (at 8)) tt

pub squared-nonneg : (a : V3) → pos 0 ≤ℤ squared_length a
squared-nonneg a =
    add_nonneg_ℤ (a.x *ℤ a.x +ℤ a.y *ℤ a.y) (a.z *ℤ a.z) (add_nonneg_ℤ (a.x *ℤ a.x) (a.y *ℤ a.y) (sq_nonneg_ℤ a.x) (sq_nonneg_ℤ a.y)) (sq_nonneg_ℤ a.z)

-- Cauchy's inequality, by Lagrange's identity
pub cauchy : (a b : V3) → pos 0 ≤ℤ (squared_length b *ℤ squared_length a -ℤ dot_product a b *ℤ dot_product a b)
cauchy a b =
    rw (ring (components (a ∷ b ∷ []))
    (dot (at 3) (at 3) ⊗ dot (at 0) (at 0) ⊖ dot (at 0) (at 3) ⊗ dot (at 0) (at 3))
    (dot (cross (at 0) (at 3)) (cross (at 0) (at 3))) tt) (squared-nonneg (cross_product a b))
