use Rattle.std.proofs.Common.{[], ◌∙◌, ap, get_or}
use Rattle.block_rows.specs.Calls.Matrices.{kept_row}
use Rattle.list_laws.proofs.Pushes.{counted_more}
use Rattle.std.proofs.lemmas.List.{get_or_default}
use Rattle.block_rows.proofs.rows.kept_rows.Goals as goal

pub loop-node-preserved : goal.loop-node-preserved
loop-node-preserved c =
    let fixed = c.args.fixed.now in
    let node = c.loop-node.node in
    let read = c.index-sums-node.is ∙ get_or_default c.args.sums.now node c.index-sums-node.result [] c.loop-node-test.true in
    counted_more (λ k. kept_row fixed k (get_or c.args.sums.now k [])) node c.in_ok-kept_row.field-0 c.loop-node.made.items c.push.new.self.items c.loop-node.invariant
    (c.in_ok-kept_row.ensures ∙ ap (kept_row fixed node) read) c.in_ok-push.ensures.items
