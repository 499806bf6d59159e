-- Square tables of 3x3 blocks, with a row and a column of blocks for each node, and their products with vectors.
use Rattle.std.specs.Prelude.{◌≡◌, ℕ, ◌==◌, ◌+◌, ◌*◌, ◌^◌, ◌<◌, length, All, unsigned_abs, ℤ, pos, ◌+ℤ◌, ◌*ℤ◌, Bool, false, ◌&&◌, ◌||◌, List, [], ◌∷◌, map, zip, flat_map, slice_index_or, if◌then◌else◌}
use Rattle.std.specs.List.{range_with_len}
use Rattle.list_laws.specs.Sums.{total}
use Rattle.num_q.specs.Rounding.{cut_of}
use Rattle.space3.specs.declared.vectors.V3.{V3}
use Rattle.space3.specs.Vectors.{vector, sum_of, dot_product}
use Rattle.vec_q.specs.Matrices.{M3, columns, transposed, unit_times}

-- the block at the row of one node and the column of another
abbrev pub Table : Type 0
Table = (row column : ℕ) → M3

abbrev pub no_block : M3
no_block = unit_times (pos 0)

-- the table without an entry but 0
abbrev pub zeros : Table
zeros row column = no_block

abbrev pub sum_of_blocks : M3 → M3 → M3
sum_of_blocks a b = columns (sum_of a.first b.first) (sum_of a.second b.second) (sum_of a.third b.third)

-- the table where this block is added at i and j
abbrev pub with_block : (i j : ℕ) → M3 → Table → Table
with_block i j block table row column =
    if (row == i) && (column == j) then sum_of_blocks (table row column) block else table row column

-- the table without what stands in rows or columns of fixed nodes
abbrev pub free_table : (fixed : List Bool) → Table → Table
free_table fixed table row column =
    if slice_index_or fixed row false || slice_index_or fixed column false then no_block else table row column

-- each component, and each entry, cut to 62 bits
abbrev pub cut_vector : V3 → V3
cut_vector v = vector (cut_of 62 v.x) (cut_of 62 v.y) (cut_of 62 v.z)

abbrev pub cut_block : M3 → M3
cut_block m = columns (cut_vector m.first) (cut_vector m.second) (cut_vector m.third)

-- the block of the unit matrix
abbrev pub unit_block : (row column : ℕ) → M3
unit_block row column = if row == column then unit_times (pos 1) else no_block

-- each entry cut, and rows and columns of fixed nodes those of the unit matrix
abbrev pub cut_table : (fixed : List Bool) → Table → Table
cut_table fixed table row column =
    if slice_index_or fixed row false || slice_index_or fixed column false then unit_block row column
    else cut_block (table row column)

-- the three numbers of a node in a vector that has three for each
abbrev pub three_at : List ℤ → (node : ℕ) → V3
three_at p node =
    vector (slice_index_or p (3 * node) (pos 0)) (slice_index_or p (3 * node + 1) (pos 0)) (slice_index_or p (3 * node + 2) (pos 0))

-- a row of numbers, three in the columns of each node, times a vector: the sum over all nodes
abbrev pub row_times : (nodes : ℕ) → (row : (column : ℕ) → V3) → List ℤ → ℤ
row_times nodes row p = total (map (λ node. dot_product (row node) (three_at p node)) (range_with_len 0 nodes))

-- the three numbers of a node in the product of a table with a vector
abbrev pub product_at : (nodes : ℕ) → Table → List ℤ → (node : ℕ) → List ℤ
product_at nodes table p node =
    let rows = λ (column : ℕ). transposed (table node column) in
    row_times nodes (λ column. (rows column).first) p ∷ row_times nodes (λ column. (rows column).second) p
    ∷ row_times nodes (λ column. (rows column).third) p ∷ []

-- the product of a table with a vector, three numbers for each node
abbrev pub product : (nodes : ℕ) → Table → List ℤ → List ℤ
product nodes table p = flat_map (product_at nodes table p) (range_with_len 0 nodes)

-- the sum of two vectors, number by number
abbrev pub sum_by_number : List ℤ → List ℤ → List ℤ
sum_by_number p q = map (λ pair. pair.0 +ℤ pair.1) (zip p q)

-- a multiple of a vector, number by number
abbrev pub multiple_by_number : ℤ → List ℤ → List ℤ
multiple_by_number k p = map (λ number. k *ℤ number) p

-- the diagonal of a block
abbrev pub diagonal_of : M3 → V3
diagonal_of m = vector m.first.x m.second.y m.third.z

-- a vector with three numbers for each node, below 2^44 in absolute value
pub record IsVector (nodes : ℕ) (p : List ℤ) : Type 0 where
  pub three : length p ≡ 3 * nodes
  pub small : All (λ x. unsigned_abs x < 2 ^ 44) p
