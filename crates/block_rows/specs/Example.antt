-- A table of two nodes, made of four blocks.
use Rattle.std.specs.Prelude.{pos, neg_ℤ}
use Rattle.space3.specs.Vectors.{vector}
use Rattle.vec_q.specs.Matrices.{M3, columns, transposed}
use Rattle.block_rows.specs.Tables.{Table, with_block, zeros}

abbrev pub first_block : M3
first_block = columns
    (vector (pos 900) (pos 20) (neg_ℤ (pos 10)))
    (vector (pos 20) (pos 800) (pos 30))
    (vector (neg_ℤ (pos 10)) (pos 30) (pos 700))

abbrev pub second_block : M3
second_block = columns
    (vector (pos 600) (neg_ℤ (pos 20)) (pos 10))
    (vector (neg_ℤ (pos 20)) (pos 700) (pos 0))
    (vector (pos 10) (pos 0) (pos 800))

-- what stands in the row of the first node and the column of the second
abbrev pub side_block : M3
side_block = columns
    (vector (neg_ℤ (pos 500)) (neg_ℤ (pos 3)) (pos 2))
    (vector (pos 7) (neg_ℤ (pos 400)) (pos 0))
    (vector (pos 0) (pos 5) (neg_ℤ (pos 300)))

abbrev pub two_nodes : Table
two_nodes =
    with_block 0 0 first_block (with_block 0 1 side_block (with_block 1 0 (transposed side_block) (with_block 1 1 second_block zeros)))
