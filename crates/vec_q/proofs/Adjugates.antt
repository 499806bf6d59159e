-- The products of columns with the cross products of columns.
use Rattle.std.proofs.Common.{◌≡◌, pos, [], ◌∷◌}
use Rattle.whole_laws.proofs.Ring.{ring, v, num, ◌⊕◌, ◌⊖◌, ◌⊗◌}
use Rattle.space3.specs.declared.vectors.V3.{V3}
use Rattle.space3.specs.Vectors.{vector, dot_product, cross_product, determinant}
use Rattle.vec_q.specs.Matrices.{M3, columns, product_of, adjugate, determinant_of, unit_times}

first_with_others : (a b c : V3) → dot_product (cross_product b c) a ≡ determinant a b c
first_with_others a b c = ring (a.x ∷ a.y ∷ a.z ∷ b.x ∷ b.y ∷ b.z ∷ c.x ∷ c.y ∷ c.z ∷ []) ((v 4 ⊗ v 8 ⊖ v 5 ⊗ v 7) ⊗ v 0 ⊕ (v 5 ⊗ v 6 ⊖ v 3 ⊗ v 8) ⊗ v 1 ⊕ (v 3 ⊗ v 7 ⊖ v 4 ⊗ v 6) ⊗ v 2) (v 0 ⊗ (v 4 ⊗ v 8 ⊖ v 5 ⊗ v 7) ⊕ v 1 ⊗ (v 5 ⊗ v 6 ⊖ v 3 ⊗ v 8) ⊕ v 2 ⊗ (v 3 ⊗ v 7 ⊖ v 4 ⊗ v 6)) tt

second_with_others : (a b c : V3) → dot_product (cross_product c a) b ≡ determinant a b c
second_with_others a b c = ring (a.x ∷ a.y ∷ a.z ∷ b.x ∷ b.y ∷ b.z ∷ c.x ∷ c.y ∷ c.z ∷ []) ((v 7 ⊗ v 2 ⊖ v 8 ⊗ v 1) ⊗ v 3 ⊕ (v 8 ⊗ v 0 ⊖ v 6 ⊗ v 2) ⊗ v 4 ⊕ (v 6 ⊗ v 1 ⊖ v 7 ⊗ v 0) ⊗ v 5) (v 0 ⊗ (v 4 ⊗ v 8 ⊖ v 5 ⊗ v 7) ⊕ v 1 ⊗ (v 5 ⊗ v 6 ⊖ v 3 ⊗ v 8) ⊕ v 2 ⊗ (v 3 ⊗ v 7 ⊖ v 4 ⊗ v 6)) tt

third_with_others : (a b c : V3) → dot_product (cross_product a b) c ≡ determinant a b c
third_with_others a b c = ring (a.x ∷ a.y ∷ a.z ∷ b.x ∷ b.y ∷ b.z ∷ c.x ∷ c.y ∷ c.z ∷ []) ((v 1 ⊗ v 5 ⊖ v 2 ⊗ v 4) ⊗ v 6 ⊕ (v 2 ⊗ v 3 ⊖ v 0 ⊗ v 5) ⊗ v 7 ⊕ (v 0 ⊗ v 4 ⊖ v 1 ⊗ v 3) ⊗ v 8) (v 0 ⊗ (v 4 ⊗ v 8 ⊖ v 5 ⊗ v 7) ⊕ v 1 ⊗ (v 5 ⊗ v 6 ⊖ v 3 ⊗ v 8) ⊕ v 2 ⊗ (v 3 ⊗ v 7 ⊖ v 4 ⊗ v 6)) tt

-- a cross product is across both factors
across_first : (a b : V3) → dot_product (cross_product a b) a ≡ pos 0
across_first a b = ring (a.x ∷ a.y ∷ a.z ∷ b.x ∷ b.y ∷ b.z ∷ []) ((v 1 ⊗ v 5 ⊖ v 2 ⊗ v 4) ⊗ v 0 ⊕ (v 2 ⊗ v 3 ⊖ v 0 ⊗ v 5) ⊗ v 1 ⊕ (v 0 ⊗ v 4 ⊖ v 1 ⊗ v 3) ⊗ v 2) (num (pos 0)) tt

across_second : (a b : V3) → dot_product (cross_product a b) b ≡ pos 0
across_second a b = ring (a.x ∷ a.y ∷ a.z ∷ b.x ∷ b.y ∷ b.z ∷ []) ((v 1 ⊗ v 5 ⊖ v 2 ⊗ v 4) ⊗ v 3 ⊕ (v 2 ⊗ v 3 ⊖ v 0 ⊗ v 5) ⊗ v 4 ⊕ (v 0 ⊗ v 4 ⊖ v 1 ⊗ v 3) ⊗ v 5) (num (pos 0)) tt

pub adjugate-product : (m : M3) → product_of (adjugate m) m ≡ unit_times (determinant_of m)
adjugate-product m =
    let a = m.first in
    let b = m.second in
    let c = m.third in
    λ i. columns
    (vector (first_with_others a b c i) (across_second c a i) (across_first a b i))
    (vector (across_first b c i) (second_with_others a b c i) (across_second a b i))
    (vector (across_second b c i) (across_first c a i) (third_with_others a b c i))

-- a row of a matrix times a column of its adjugate
row_x_column_x : (a b c : V3) → dot_product (vector a.x b.x c.x) (vector (cross_product b c).x (cross_product c a).x (cross_product a b).x) ≡ determinant a b c
row_x_column_x a b c = ring (a.x ∷ a.y ∷ a.z ∷ b.x ∷ b.y ∷ b.z ∷ c.x ∷ c.y ∷ c.z ∷ []) (v 0 ⊗ (v 4 ⊗ v 8 ⊖ v 5 ⊗ v 7) ⊕ v 3 ⊗ (v 7 ⊗ v 2 ⊖ v 8 ⊗ v 1) ⊕ v 6 ⊗ (v 1 ⊗ v 5 ⊖ v 2 ⊗ v 4)) (v 0 ⊗ (v 4 ⊗ v 8 ⊖ v 5 ⊗ v 7) ⊕ v 1 ⊗ (v 5 ⊗ v 6 ⊖ v 3 ⊗ v 8) ⊕ v 2 ⊗ (v 3 ⊗ v 7 ⊖ v 4 ⊗ v 6)) tt

row_x_column_y : (a b c : V3) → dot_product (vector a.x b.x c.x) (vector (cross_product b c).y (cross_product c a).y (cross_product a b).y) ≡ pos 0
row_x_column_y a b c = ring (a.x ∷ a.y ∷ a.z ∷ b.x ∷ b.y ∷ b.z ∷ c.x ∷ c.y ∷ c.z ∷ []) (v 0 ⊗ (v 5 ⊗ v 6 ⊖ v 3 ⊗ v 8) ⊕ v 3 ⊗ (v 8 ⊗ v 0 ⊖ v 6 ⊗ v 2) ⊕ v 6 ⊗ (v 2 ⊗ v 3 ⊖ v 0 ⊗ v 5)) (num (pos 0)) tt

row_x_column_z : (a b c : V3) → dot_product (vector a.x b.x c.x) (vector (cross_product b c).z (cross_product c a).z (cross_product a b).z) ≡ pos 0
row_x_column_z a b c = ring (a.x ∷ a.y ∷ a.z ∷ b.x ∷ b.y ∷ b.z ∷ c.x ∷ c.y ∷ c.z ∷ []) (v 0 ⊗ (v 3 ⊗ v 7 ⊖ v 4 ⊗ v 6) ⊕ v 3 ⊗ (v 6 ⊗ v 1 ⊖ v 7 ⊗ v 0) ⊕ v 6 ⊗ (v 0 ⊗ v 4 ⊖ v 1 ⊗ v 3)) (num (pos 0)) tt

row_y_column_x : (a b c : V3) → dot_product (vector a.y b.y c.y) (vector (cross_product b c).x (cross_product c a).x (cross_product a b).x) ≡ pos 0
row_y_column_x a b c = ring (a.x ∷ a.y ∷ a.z ∷ b.x ∷ b.y ∷ b.z ∷ c.x ∷ c.y ∷ c.z ∷ []) (v 1 ⊗ (v 4 ⊗ v 8 ⊖ v 5 ⊗ v 7) ⊕ v 4 ⊗ (v 7 ⊗ v 2 ⊖ v 8 ⊗ v 1) ⊕ v 7 ⊗ (v 1 ⊗ v 5 ⊖ v 2 ⊗ v 4)) (num (pos 0)) tt

row_y_column_y : (a b c : V3) → dot_product (vector a.y b.y c.y) (vector (cross_product b c).y (cross_product c a).y (cross_product a b).y) ≡ determinant a b c
row_y_column_y a b c = ring (a.x ∷ a.y ∷ a.z ∷ b.x ∷ b.y ∷ b.z ∷ c.x ∷ c.y ∷ c.z ∷ []) (v 1 ⊗ (v 5 ⊗ v 6 ⊖ v 3 ⊗ v 8) ⊕ v 4 ⊗ (v 8 ⊗ v 0 ⊖ v 6 ⊗ v 2) ⊕ v 7 ⊗ (v 2 ⊗ v 3 ⊖ v 0 ⊗ v 5)) (v 0 ⊗ (v 4 ⊗ v 8 ⊖ v 5 ⊗ v 7) ⊕ v 1 ⊗ (v 5 ⊗ v 6 ⊖ v 3 ⊗ v 8) ⊕ v 2 ⊗ (v 3 ⊗ v 7 ⊖ v 4 ⊗ v 6)) tt

row_y_column_z : (a b c : V3) → dot_product (vector a.y b.y c.y) (vector (cross_product b c).z (cross_product c a).z (cross_product a b).z) ≡ pos 0
row_y_column_z a b c = ring (a.x ∷ a.y ∷ a.z ∷ b.x ∷ b.y ∷ b.z ∷ c.x ∷ c.y ∷ c.z ∷ []) (v 1 ⊗ (v 3 ⊗ v 7 ⊖ v 4 ⊗ v 6) ⊕ v 4 ⊗ (v 6 ⊗ v 1 ⊖ v 7 ⊗ v 0) ⊕ v 7 ⊗ (v 0 ⊗ v 4 ⊖ v 1 ⊗ v 3)) (num (pos 0)) tt

row_z_column_x : (a b c : V3) → dot_product (vector a.z b.z c.z) (vector (cross_product b c).x (cross_product c a).x (cross_product a b).x) ≡ pos 0
row_z_column_x a b c = ring (a.x ∷ a.y ∷ a.z ∷ b.x ∷ b.y ∷ b.z ∷ c.x ∷ c.y ∷ c.z ∷ []) (v 2 ⊗ (v 4 ⊗ v 8 ⊖ v 5 ⊗ v 7) ⊕ v 5 ⊗ (v 7 ⊗ v 2 ⊖ v 8 ⊗ v 1) ⊕ v 8 ⊗ (v 1 ⊗ v 5 ⊖ v 2 ⊗ v 4)) (num (pos 0)) tt

row_z_column_y : (a b c : V3) → dot_product (vector a.z b.z c.z) (vector (cross_product b c).y (cross_product c a).y (cross_product a b).y) ≡ pos 0
row_z_column_y a b c = ring (a.x ∷ a.y ∷ a.z ∷ b.x ∷ b.y ∷ b.z ∷ c.x ∷ c.y ∷ c.z ∷ []) (v 2 ⊗ (v 5 ⊗ v 6 ⊖ v 3 ⊗ v 8) ⊕ v 5 ⊗ (v 8 ⊗ v 0 ⊖ v 6 ⊗ v 2) ⊕ v 8 ⊗ (v 2 ⊗ v 3 ⊖ v 0 ⊗ v 5)) (num (pos 0)) tt

row_z_column_z : (a b c : V3) → dot_product (vector a.z b.z c.z) (vector (cross_product b c).z (cross_product c a).z (cross_product a b).z) ≡ determinant a b c
row_z_column_z a b c = ring (a.x ∷ a.y ∷ a.z ∷ b.x ∷ b.y ∷ b.z ∷ c.x ∷ c.y ∷ c.z ∷ []) (v 2 ⊗ (v 3 ⊗ v 7 ⊖ v 4 ⊗ v 6) ⊕ v 5 ⊗ (v 6 ⊗ v 1 ⊖ v 7 ⊗ v 0) ⊕ v 8 ⊗ (v 0 ⊗ v 4 ⊖ v 1 ⊗ v 3)) (v 0 ⊗ (v 4 ⊗ v 8 ⊖ v 5 ⊗ v 7) ⊕ v 1 ⊗ (v 5 ⊗ v 6 ⊖ v 3 ⊗ v 8) ⊕ v 2 ⊗ (v 3 ⊗ v 7 ⊖ v 4 ⊗ v 6)) tt

pub product-adjugate : (m : M3) → product_of m (adjugate m) ≡ unit_times (determinant_of m)
product-adjugate m =
    let a = m.first in
    let b = m.second in
    let c = m.third in
    λ i. columns
    (vector (row_x_column_x a b c i) (row_y_column_x a b c i) (row_z_column_x a b c i))
    (vector (row_x_column_y a b c i) (row_y_column_y a b c i) (row_z_column_y a b c i))
    (vector (row_x_column_z a b c i) (row_y_column_z a b c i) (row_z_column_z a b c i))
