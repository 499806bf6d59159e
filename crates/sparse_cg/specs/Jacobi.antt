-- Jacobi's direction: each component of the gradient over the matrix's diagonal entry.
use Rattle.std.specs.Prelude.{ℕ, ℤ, pos, neg_ℤ, List, map}
use Rattle.std.specs.List.{range_with_len}
use Rattle.std.specs.Int.{int_max}
use Rattle.num_q.specs.Rounding.{round_of, cut_of}
use Rattle.space3.specs.declared.vectors.V3.{V3}
use Rattle.space3.specs.Vectors.{vector}
use Rattle.block_rows.specs.Tables.{Table, diagonal_of, three_at}

-- a component of the direction, in grid units
abbrev pub jacobi_component : (diagonal slope : ℤ) → ℤ
jacobi_component diagonal slope = cut_of 21 (round_of (neg_ℤ slope) (int_max (pos 1) diagonal))

-- the direction of a node
abbrev pub jacobi_at : Table → (slopes : List ℤ) → (node : ℕ) → V3
jacobi_at table slopes node =
    let diagonal = diagonal_of (table node node) in
    let slope = three_at slopes node in
    vector (jacobi_component diagonal.x slope.x) (jacobi_component diagonal.y slope.y) (jacobi_component diagonal.z slope.z)

-- the direction, one vector for each node
abbrev pub jacobi : (nodes : ℕ) → Table → (slopes : List ℤ) → List V3
jacobi nodes table slopes = map (jacobi_at table slopes) (range_with_len 0 nodes)
