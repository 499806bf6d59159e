-- 3x3 matrices of whole numbers of any size.
use Rattle.std.specs.Prelude.{ℤ, pos, ◌+ℤ◌}
use Rattle.space3.specs.declared.vectors.V3.{V3}
use Rattle.space3.specs.Vectors.{vector, dot_product, cross_product, determinant}

-- a matrix, by its columns
pub record M3 : Type 0 where
  pub first : V3
  pub second : V3
  pub third : V3

-- the matrix with these columns
abbrev pub columns : V3 → V3 → V3 → M3
columns a b c = record { first = a; second = b; third = c }

-- rows and columns exchanged
abbrev pub transposed : M3 → M3
transposed m = columns
    (vector m.first.x m.second.x m.third.x)
    (vector m.first.y m.second.y m.third.y)
    (vector m.first.z m.second.z m.third.z)

-- the product with a vector: the dot products of the rows with it
abbrev pub times_vector : M3 → V3 → V3
times_vector m a =
    let rows = transposed m in
    vector (dot_product rows.first a) (dot_product rows.second a) (dot_product rows.third a)

-- the product of two matrices: that of the first with each column of the second
abbrev pub product_of : M3 → M3 → M3
product_of m n = columns (times_vector m n.first) (times_vector m n.second) (times_vector m n.third)

-- the cofactors: each column is the cross product of the other two
abbrev pub cofactors : M3 → M3
cofactors m = columns
    (cross_product m.second m.third)
    (cross_product m.third m.first)
    (cross_product m.first m.second)

-- the transposed cofactors: times m, they give the determinant times the unit matrix
abbrev pub adjugate : M3 → M3
adjugate m = transposed (cofactors m)

-- the unit matrix times a number
abbrev pub unit_times : ℤ → M3
unit_times k = columns
    (vector k (pos 0) (pos 0))
    (vector (pos 0) k (pos 0))
    (vector (pos 0) (pos 0) k)

-- the entries on the diagonal
abbrev pub diagonal_of : M3 → V3
diagonal_of m = vector m.first.x m.second.y m.third.z

-- the determinant: the triple product of the columns
abbrev pub determinant_of : M3 → ℤ
determinant_of m = determinant m.first m.second m.third

-- the sum of the squares of all entries
abbrev pub sum_of_squares : M3 → ℤ
sum_of_squares m =
    dot_product m.first m.first +ℤ dot_product m.second m.second +ℤ dot_product m.third m.third
