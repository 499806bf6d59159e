use Rattle.std.proofs.Common.{ℕ, ◌∙◌, ◌^◌, ◌<◌, ℤ, pos, unsigned_abs, get_or, arith}
use Rattle.sparse_cg.specs.Calls.Lists.{left_over}
use Rattle.sparse_cg.proofs.Fronts.{combined_counted, front_kept, front_value}
use Rattle.sparse_cg.proofs.lists.write_left_over.Goals as goal

pub loop-i-preserved : goal.loop-i-preserved
loop-i-preserved c =
    front_kept (λ (k : ℕ). left_over c.args.shift (get_or c.args.target.now k (pos 0)) (get_or c.args.product.now k (pos 0))) c.loop-i.out c.loop-i.i c.kept.result (omega arith) (c.kept.ensures.value ∙ c.left_over-rest.ensures ∙ (λ t. left_over c.args.shift (c.number_at.ensures t) (c.product_at.ensures t))) c.kept.ensures.short c.loop-i.invariant

pub returns-clause-value : goal.returns-clause-value
returns-clause-value c =
    front_value (λ (x : ℤ). unsigned_abs x < 2 ^ 44) (λ (k : ℕ). left_over c.args.shift (get_or c.args.target.now k (pos 0)) (get_or c.args.product.now k (pos 0))) c.loop-i.out c.loop-i.i (omega arith) c.loop-i.invariant
    ∙ combined_counted (left_over c.args.shift) c.args.target.now c.args.product.now c.loop-i.i (omega arith) (omega arith)
