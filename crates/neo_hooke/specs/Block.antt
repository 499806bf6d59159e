-- A block of the matrix: how the pull at one node changes with the place of another. The stretch gives it the same in all
-- directions; of the volume, what is never negative is kept: a square.
use Rattle.std.specs.Prelude.{ℕ, zero, suc, ◌^◌, ℤ, pos, ◌+ℤ◌, ◌*ℤ◌, neg_ℤ, List}
use Rattle.num_q.specs.Rounding.{cut_of, floor_of}
use Rattle.space3.specs.declared.vectors.V3.{V3}
use Rattle.space3.specs.Vectors.{vector, dot_product}
use Rattle.vec_q.specs.Matrices.{M3, columns, cofactors, determinant_of, transposed, unit_times}
use Rattle.neo_hooke.specs.Rest.{RestShape, edge_matrix}

-- minus the sum of the columns
abbrev pub opposite_of : M3 → V3
opposite_of m = vector
    (neg_ℤ (m.first.x +ℤ m.second.x +ℤ m.third.x))
    (neg_ℤ (m.first.y +ℤ m.second.y +ℤ m.third.y))
    (neg_ℤ (m.first.z +ℤ m.second.z +ℤ m.third.z))

-- the vector of a node: its column, and of the first node minus the sum of all
abbrev pub at_node : M3 → ℕ → V3
at_node m zero = opposite_of m
at_node m (suc zero) = m.first
at_node m (suc (suc zero)) = m.second
at_node m (suc (suc (suc n))) = m.third

-- h: how ln J changes with a component of a node's place, with 24 fraction bits
abbrev pub log_slope : (volume cofactor : ℤ) → ℤ
log_slope volume cofactor = cut_of 24 (floor_of (cofactor *ℤ pos (2 ^ 24)) volume)

abbrev pub slopes_of : (volume : ℤ) (cofactor : V3) → V3
slopes_of volume cofactor =
    vector (log_slope volume cofactor.x) (log_slope volume cofactor.y) (log_slope volume cofactor.z)

abbrev pub log_slopes : (edges : M3) → (node : ℕ) → V3
log_slopes edges node = slopes_of (determinant_of edges) (at_node (cofactors edges) node)

-- what the stretch adds on the diagonal
abbrev pub stretch_entry : RestShape → (mu : ℤ) → (i j : ℕ) → ℤ
stretch_entry rest mu i j =
    let rows = transposed rest.adj in
    floor_of (pos 8 *ℤ mu *ℤ dot_product (at_node rows i) (at_node rows j)) rest.r

-- what the volume adds
abbrev pub volume_entry : (stiffness h l : ℤ) → ℤ
volume_entry stiffness h l = floor_of (stiffness *ℤ (h *ℤ l)) (pos (2 ^ 45))

-- a column of the block, from what the stretch adds to it
abbrev pub column_of : (stiffness : ℤ) (h : V3) (l : ℤ) (stretch : V3) → V3
column_of stiffness h l stretch = vector
    (cut_of 86 (stretch.x +ℤ volume_entry stiffness h.x l))
    (cut_of 86 (stretch.y +ℤ volume_entry stiffness h.y l))
    (cut_of 86 (stretch.z +ℤ volume_entry stiffness h.z l))

abbrev pub block_of : (stretch stiffness : ℤ) (h l : V3) → M3
block_of stretch stiffness h l =
    let diagonal = unit_times stretch in
    columns
    (column_of stiffness h l.x diagonal.first)
    (column_of stiffness h l.y diagonal.second)
    (column_of stiffness h l.z diagonal.third)

-- the block of the nodes i and j at four places
unfoldable pub block_at : RestShape → (mu lambda : ℤ) → (edges : M3) → (i j : ℕ) → M3
block_at rest mu lambda edges i j =
    block_of (stretch_entry rest mu i j) (rest.r *ℤ (mu +ℤ lambda)) (log_slopes edges i) (log_slopes edges j)

abbrev pub elastic_block : RestShape → (mu lambda : ℤ) → List V3 → (i j : ℕ) → M3
elastic_block rest mu lambda x i j = block_at rest mu lambda (edge_matrix x) i j
