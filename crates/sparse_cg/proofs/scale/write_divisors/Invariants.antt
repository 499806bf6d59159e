use Rattle.std.proofs.Common.{◌≡◌, ◌*◌, pos, length, map, take}
use Rattle.std.specs.Int.{int_max}
use Rattle.std.specs.List.{flat_map, range_with_len}
use Rattle.vec_q.specs.Rows.{components}
use Rattle.block_rows.specs.Stored.{nodes_of, table_of}
use Rattle.block_rows.specs.Tables.{diagonal_of}
use Rattle.sparse_cg.specs.Calls.Lists.{numbers_of}
use Rattle.sparse_cg.proofs.scale.write_divisors.Given as goal

abbrev pub invariant-loop-node : goal.invariant-loop-node
invariant-loop-node l = record {
  room : length l.out ≡ 3 * nodes_of l.rows;
  value : numbers_of (take (3 * l.node) l.out) ≡ flat_map (λ node. map (int_max (pos 1)) (components (diagonal_of (table_of l.rows node node)))) (range_with_len 0 l.node);
}
