use Rattle.std.proofs.Common.{length, ◌∙◌, ◌+◌, ◌*◌, ◌^◌, ◌++◌, ◌<◌, ap, sym, subst, take, [], ◌∷◌, arith}
use Rattle.std.specs.Prelude.{All}
use Rattle.std.proofs.lemmas.List.{get_or_default, length-set}
use Rattle.std.proofs.lemmas.List.Elements.{All-append, All-cons, All-nil}
use Rattle.space3.specs.Vectors.{AtMost}
use Rattle.vec_q.specs.Rows.{components}
use Rattle.list_laws.proofs.Pushes.{flat_map_counted_more}
use Rattle.block_rows.specs.Stored.{table_of}
use Rattle.block_rows.specs.Tables.{product_at}
use Rattle.block_rows.specs.Calls.Entries.{IsRow}
use Rattle.block_rows.specs.Calls.Products.{entries_times}
use Rattle.block_rows.proofs.RowProducts.{few_entries, same_product}
use Rattle.block_rows.proofs.Threes.{three_more}
use Rattle.block_rows.proofs.rows.write_products.Goals as goal

pub times-sum-requires-clause-few : goal.times-sum-requires-clause-few
times-sum-requires-clause-few c =
    let rows = c.args.rows.now in
    let row = c.index-rows-node.result in
    let is = subst (IsRow (length rows)) (sym c.index-rows-node.is) (c.requires.rows.each c.loop-node.node row c.loop-node-test.true) in
    omega (arith, few_entries (length rows) 0 row is.ascending (λ k d l. omega arith) is.inside, c.requires.rows.few)

pub loop-node-preserved : goal.loop-node-preserved
loop-node-preserved c =
    let rows = c.args.rows.now in
    let p = c.args.p.now in
    let node = c.loop-node.node in
    let out = c.loop-node.out in
    let sum = c.times-sum.result in
    let read = c.index-rows-node.is ∙ get_or_default rows node c.index-rows-node.result [] c.loop-node-test.true in
    let row = ap components (c.times-sum.ensures.value ∙ ap (entries_times p) read) ∙ same_product rows p node c.loop-node-test.true c.requires.rows.each in
    let room : 3 * node + 2 < length out = omega (arith, c.loop-node.invariant.room, c.loop-node-test.true) in
    let written = ap (take (3 * (node + 1))) c.write_three.ensures ∙ three_more out (3 * node) (3 * (node + 1)) sum.x sum.y sum.z room (omega arith) in
    record {
      room = ap length c.write_three.ensures ∙ length-set _ (3 * node + 2) sum.z ∙ length-set _ (3 * node + 1) sum.y ∙ length-set out (3 * node) sum.x ∙ c.loop-node.invariant.room;
      value = written ∙ (λ t. c.loop-node.invariant.value t ++ row t) ∙ sym (flat_map_counted_more (product_at (length rows) (table_of rows) p) node);
      bound = subst (All (AtMost (2 ^ 122))) (sym written)
          (All-append (AtMost (2 ^ 122)) (take (3 * node) out) (sum.x ∷ sum.y ∷ sum.z ∷ []) c.loop-node.invariant.bound
          (All-cons (AtMost (2 ^ 122)) sum.x (sum.y ∷ sum.z ∷ []) c.times-sum.ensures.bound.x
          (All-cons (AtMost (2 ^ 122)) sum.y (sum.z ∷ []) c.times-sum.ensures.bound.y (All-cons (AtMost (2 ^ 122)) sum.z [] c.times-sum.ensures.bound.z (All-nil (AtMost (2 ^ 122)))))));
    }
