use Rattle.std.proofs.Common.{ℕ, ◌∙◌, ◌^◌, ◌<◌, ℤ, pos, unsigned_abs, get_or, ap, arith}
use Rattle.sparse_cg.specs.Calls.Lists.{shortened}
use Rattle.sparse_cg.proofs.Fronts.{front_kept, front_value, map_counted}
use Rattle.sparse_cg.proofs.lists.write_shortened.Goals as goal

pub loop-i-preserved : goal.loop-i-preserved
loop-i-preserved c =
    front_kept (λ (k : ℕ). shortened c.args.shift (get_or c.args.product.now k (pos 0))) c.loop-i.out c.loop-i.i c.kept.result (omega arith) (c.kept.ensures.value ∙ c.shortened.ensures ∙ ap (shortened c.args.shift) c.product_at.ensures) c.kept.ensures.short c.loop-i.invariant

pub returns-clause-value : goal.returns-clause-value
returns-clause-value c =
    front_value (λ (x : ℤ). unsigned_abs x < 2 ^ 44) (λ (k : ℕ). shortened c.args.shift (get_or c.args.product.now k (pos 0))) c.loop-i.out c.loop-i.i (omega arith) c.loop-i.invariant
    ∙ map_counted (shortened c.args.shift) c.args.product.now c.loop-i.i (omega arith)
