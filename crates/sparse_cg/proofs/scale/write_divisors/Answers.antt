use Rattle.std.proofs.Common.{ℕ, ℤ, List, length, ◌∙◌, ◌+◌, ◌*◌, ◌++◌, ◌<◌, ap, sym, map, take, arith}
use Rattle.std.specs.Int.{int_max}
use Rattle.std.specs.Prelude.{pos, [], ◌∷◌}
use Rattle.std.proofs.lemmas.List.{length-set, map-append}
use Rattle.num_q.specs.declared.divisors.Divisor.{Divisor}
use Rattle.vec_q.specs.Rows.{components}
use Rattle.list_laws.proofs.Pushes.{flat_map_counted_more}
use Rattle.block_rows.specs.Stored.{table_of}
use Rattle.block_rows.specs.Tables.{diagonal_of}
use Rattle.block_rows.proofs.Threes.{three_more}
use Rattle.sparse_cg.specs.Calls.Lists.{numbers_of}
use Rattle.sparse_cg.proofs.scale.write_divisors.Goals as goal

pub loop-node-preserved : goal.loop-node-preserved
loop-node-preserved c =
    let node = c.loop-node.node in
    let out = c.loop-node.out in
    let v = c.divisors_at-divisors.result in
    let entries = components (diagonal_of (table_of c.args.rows.now node node)) in
    let front = take (3 * node) out in
    let room : 3 * node + 2 < length out = omega (arith, c.loop-node.invariant.room, c.loop-node-test.true) in
    let written = ap (λ (l : List Divisor). numbers_of (take (3 * (node + 1)) l)) c.write_three.ensures
    ∙ ap numbers_of (three_more out (3 * node) (3 * (node + 1)) v.x v.y v.z room (omega arith))
    ∙ map-append (λ (d : Divisor). pos d.number) front (v.x ∷ v.y ∷ v.z ∷ [])
    ∙ ap (λ (l : List ℤ). numbers_of front ++ l) c.divisors_at-divisors.ensures in
    record {
      room = ap length c.write_three.ensures ∙ length-set _ (3 * node + 2) v.z ∙ length-set _ (3 * node + 1) v.y ∙ length-set out (3 * node) v.x ∙ c.loop-node.invariant.room;
      value = written ∙ ap (λ (l : List ℤ). l ++ map (int_max (pos 1)) entries) c.loop-node.invariant.value
          ∙ sym (flat_map_counted_more (λ (k : ℕ). map (int_max (pos 1)) (components (diagonal_of (table_of c.args.rows.now k k)))) node);
    }
