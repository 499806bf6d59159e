-- Products and combinations of vectors, and the three axes.
use Rattle.std.proofs.Common.{◌≡◌, ℤ, pos, ◌+ℤ◌, ◌*ℤ◌, [], ◌∷◌, refl, ap, ◌∙◌}
use Rattle.space3.specs.declared.vectors.V3.{V3}
use Rattle.space3.specs.Vectors.{vector, dot_product}
use Rattle.space3.proofs.Combinations.{mixed}
use Rattle.whole_laws.proofs.Ring.{ring, v, num, ◌⊕◌, ◌⊗◌}

pub mixed-dot : (a b r : V3) (i j : ℤ) → dot_product (mixed i j a b) r ≡ i *ℤ dot_product a r +ℤ j *ℤ dot_product b r
mixed-dot a b r i j =
    ring (a.x ∷ a.y ∷ a.z ∷ b.x ∷ b.y ∷ b.z ∷ r.x ∷ r.y ∷ r.z ∷ i ∷ j ∷ [])
    ((v 9 ⊗ v 0 ⊕ v 10 ⊗ v 3) ⊗ v 6 ⊕ (v 9 ⊗ v 1 ⊕ v 10 ⊗ v 4) ⊗ v 7 ⊕ (v 9 ⊗ v 2 ⊕ v 10 ⊗ v 5) ⊗ v 8)
    (v 9 ⊗ (v 0 ⊗ v 6 ⊕ v 1 ⊗ v 7 ⊕ v 2 ⊗ v 8) ⊕ v 10 ⊗ (v 3 ⊗ v 6 ⊕ v 4 ⊗ v 7 ⊕ v 5 ⊗ v 8)) tt

-- a coordinate, which is the product with the unit vector along it
pub record Axis : Type 0 where
  pub of : V3 → ℤ
  pub unit : V3
  pub of-mixed : (i j : ℤ) (a b : V3) → of (mixed i j a b) ≡ i *ℤ of a +ℤ j *ℤ of b
  pub dot-unit : (r : V3) → dot_product unit r ≡ of r

pub along : (axis : Axis) (s y : ℤ) (n r : V3) → dot_product (mixed s y n axis.unit) r ≡ s *ℤ dot_product n r +ℤ y *ℤ axis.of r
along axis s y n r = mixed-dot n axis.unit r s y ∙ ap (λ z. s *ℤ dot_product n r +ℤ y *ℤ z) (axis.dot-unit r)

pub dot_x : (r : V3) → dot_product (vector (pos 1) (pos 0) (pos 0)) r ≡ r.x
dot_x r = ring (r.x ∷ r.y ∷ r.z ∷ []) (num (pos 1) ⊗ v 0 ⊕ num (pos 0) ⊗ v 1 ⊕ num (pos 0) ⊗ v 2) (v 0) tt

abbrev pub axis_x : Axis
axis_x = record { of = λ r. r.x; unit = vector (pos 1) (pos 0) (pos 0); of-mixed = λ i j a b. refl; dot-unit = dot_x }

pub dot_y : (r : V3) → dot_product (vector (pos 0) (pos 1) (pos 0)) r ≡ r.y
dot_y r = ring (r.x ∷ r.y ∷ r.z ∷ []) (num (pos 0) ⊗ v 0 ⊕ num (pos 1) ⊗ v 1 ⊕ num (pos 0) ⊗ v 2) (v 1) tt

abbrev pub axis_y : Axis
axis_y = record { of = λ r. r.y; unit = vector (pos 0) (pos 1) (pos 0); of-mixed = λ i j a b. refl; dot-unit = dot_y }

pub dot_z : (r : V3) → dot_product (vector (pos 0) (pos 0) (pos 1)) r ≡ r.z
dot_z r = ring (r.x ∷ r.y ∷ r.z ∷ []) (num (pos 0) ⊗ v 0 ⊕ num (pos 0) ⊗ v 1 ⊕ num (pos 1) ⊗ v 2) (v 2) tt

abbrev pub axis_z : Axis
axis_z = record { of = λ r. r.z; unit = vector (pos 0) (pos 0) (pos 1); of-mixed = λ i j a b. refl; dot-unit = dot_z }
