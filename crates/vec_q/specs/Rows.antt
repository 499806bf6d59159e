-- Vectors and matrices as lists of numbers, as the public calls above give and take them.
use Rattle.std.specs.Prelude.{ℕ, ℤ, pos, List, [], ◌∷◌, slice_index_or}
use Rattle.space3.specs.declared.vectors.V3.{V3}
use Rattle.space3.specs.Vectors.{vector}
use Rattle.vec_q.specs.Matrices.{M3, columns, transposed}

-- the three components of a vector
abbrev pub components : V3 → List ℤ
components a = a.x ∷ a.y ∷ a.z ∷ []

-- the three rows of a matrix
abbrev pub rows_of : M3 → List (List ℤ)
rows_of m =
    let rows = transposed m in
    components rows.first ∷ components rows.second ∷ components rows.third ∷ []

-- the vector of three components
abbrev pub vector_of : List ℤ → V3
vector_of a = vector (slice_index_or a 0 (pos 0)) (slice_index_or a 1 (pos 0)) (slice_index_or a 2 (pos 0))

-- the matrix of three rows
abbrev pub matrix_of : List (List ℤ) → M3
matrix_of rows =
    let row = λ (k : ℕ). vector_of (slice_index_or rows k []) in
    transposed (columns (row 0) (row 1) (row 2))
