use Rattle.std.proofs.Common.{◌+◌, ◌*◌, ◌^◌, sym, ◌∙◌, ap, subst, arith}
use Rattle.space3.specs.Vectors.{Within, sum_of}
use Rattle.space3.specs.Wide.{unbounded}
use Rattle.vec_q.specs.Matrices.{times_vector}
use Rattle.block_rows.specs.Calls.Cells.{short_matrix}
use Rattle.block_rows.proofs.Bounds.{larger_vector, sum_of_vectors}
use Rattle.block_rows.proofs.EntrySums.{entries_more}
use Rattle.block_rows.proofs.row.cells_times.Goals as goal

pub loop-cell-preserved : goal.loop-cell-preserved
loop-cell-preserved c =
    let product = c.times-product.ensures.value ∙ ap (times_vector (short_matrix c.cell-item.result.block)) c.three_at.ensures in
    let sum = c.sum_of-sum.ensures in
    let i = c.loop-cell.cell-index in
    record {
      value = sum ∙ (λ t. sum_of (c.loop-cell.invariant.value t) (product t)) ∙ sym (entries_more c.args.p.now c.args.cells.now i c.cell-item.result c.loop-cell-test.true c.cell-item.is);
      bound = subst (Within ((i + 1) * 2 ^ 108)) (sym sum)
          (larger_vector (i * 2 ^ 108 + 2 ^ 108) ((i + 1) * 2 ^ 108) (omega arith) _ (sum_of_vectors (i * 2 ^ 108) (2 ^ 108) (unbounded c.loop-cell.sum) (unbounded c.times-product.result) c.loop-cell.invariant.bound c.times-product.ensures.bound));
    }
