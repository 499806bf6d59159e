use Rattle.std.proofs.Common.{◌≡◌, ◌*◌, ◌^◌, length, take}
use Rattle.std.specs.Prelude.{All}
use Rattle.std.specs.List.{flat_map, range_with_len}
use Rattle.space3.specs.Vectors.{AtMost}
use Rattle.block_rows.specs.Tables.{product_at}
use Rattle.block_rows.specs.Stored.{table_of}
use Rattle.block_rows.proofs.rows.write_products.Given as goal

abbrev pub invariant-loop-node : goal.invariant-loop-node
invariant-loop-node l = record {
  room : length l.out ≡ 3 * length l.rows;
  value : take (3 * l.node) l.out ≡ flat_map (product_at (length l.rows) (table_of l.rows) l.p) (range_with_len 0 l.node);
  bound : All (AtMost (2 ^ 122)) (take (3 * l.node) l.out);
}
