-- Products of matrices may be taken in any order.
use Rattle.std.proofs.Common.{◌≡◌, [], ◌∷◌}
use Rattle.whole_laws.proofs.Ring.{ring, v, ◌⊕◌, ◌⊗◌}
use Rattle.space3.specs.declared.vectors.V3.{V3}
use Rattle.space3.specs.Vectors.{vector, dot_product}
use Rattle.vec_q.specs.Matrices.{M3, columns, product_of, times_vector, transposed}

-- a row times a matrix times a column
row_times : (r : V3) (m : M3) (c : V3) → dot_product r (times_vector m c) ≡ dot_product (vector (dot_product r m.first) (dot_product r m.second) (dot_product r m.third)) c
row_times r m c =
    ring (r.x ∷ r.y ∷ r.z ∷ c.x ∷ c.y ∷ c.z ∷ m.first.x ∷ m.first.y ∷ m.first.z ∷ m.second.x ∷ m.second.y ∷ m.second.z ∷ m.third.x ∷ m.third.y ∷ m.third.z ∷ [])
    (v 0 ⊗ (v 6 ⊗ v 3 ⊕ v 9 ⊗ v 4 ⊕ v 12 ⊗ v 5) ⊕ v 1 ⊗ (v 7 ⊗ v 3 ⊕ v 10 ⊗ v 4 ⊕ v 13 ⊗ v 5) ⊕ v 2 ⊗ (v 8 ⊗ v 3 ⊕ v 11 ⊗ v 4 ⊕ v 14 ⊗ v 5))
    ((v 0 ⊗ v 6 ⊕ v 1 ⊗ v 7 ⊕ v 2 ⊗ v 8) ⊗ v 3 ⊕ (v 0 ⊗ v 9 ⊕ v 1 ⊗ v 10 ⊕ v 2 ⊗ v 11) ⊗ v 4 ⊕ (v 0 ⊗ v 12 ⊕ v 1 ⊗ v 13 ⊕ v 2 ⊗ v 14) ⊗ v 5)
    tt

pub times_vector-product : (m n : M3) (c : V3) → times_vector m (times_vector n c) ≡ times_vector (product_of m n) c
times_vector-product m n c =
    let rows = transposed m in
    λ i. vector (row_times rows.first n c i) (row_times rows.second n c i) (row_times rows.third n c i)

pub product-product : (m n p : M3) → product_of m (product_of n p) ≡ product_of (product_of m n) p
product-product m n p = λ i. columns (times_vector-product m n p.first i) (times_vector-product m n p.second i) (times_vector-product m n p.third i)
