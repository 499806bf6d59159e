use Rattle.std.proofs.Common.{ℕ, ◌∙◌, ◌+◌, ◌*◌, ◌^◌, ◌<◌, ◌≤◌, ℤ, pos, ◌+ℤ◌, ◌*ℤ◌, unsigned_abs, get_or, ap, sym, subst, arith}
use Rattle.list_laws.specs.Sums.{total}
use Rattle.list_laws.proofs.Sums.{total_more}
use Rattle.num_q.proofs.Bounds.{prod_below}
use Rattle.whole_laws.proofs.Order.{size_sum}
use Rattle.sparse_cg.proofs.Fronts.{combined_counted}
use Rattle.sparse_cg.proofs.lists.dot.Goals as goal

pub sum_within-sum-requires : goal.sum_within-sum-requires
sum_within-sum-requires c =
    let x = c.number_at.result.raw in
    let y = c.number_at-in-loop-i.result.raw in
    let product : unsigned_abs c.mul_into-product.result.raw < 2 ^ 88 = subst (λ (z : ℤ). unsigned_abs z < 2 ^ 88) (sym c.mul_into-product.ensures) (prod_below x y 44 44 88 c.number_at.result.in_range c.number_at-in-loop-i.result.in_range (omega arith)) in
    omega (arith, size_sum c.loop-i.sum.raw c.mul_into-product.result.raw, c.loop-i.invariant.bound)

pub loop-i-preserved : goal.loop-i-preserved
loop-i-preserved c =
    let i = c.loop-i.i in
    let xs = c.args.xs.now in
    let ys = c.args.ys.now in
    let x = c.number_at.result.raw in
    let y = c.number_at-in-loop-i.result.raw in
    let product : unsigned_abs c.mul_into-product.result.raw < 2 ^ 88 = subst (λ (z : ℤ). unsigned_abs z < 2 ^ 88) (sym c.mul_into-product.ensures) (prod_below x y 44 44 88 c.number_at.result.in_range c.number_at-in-loop-i.result.in_range (omega arith)) in
    let same = c.mul_into-product.ensures ∙ (λ t. c.number_at.ensures t *ℤ c.number_at-in-loop-i.ensures t) in
    record {
      value = c.sum_within-sum.ensures ∙ (λ t. c.loop-i.invariant.value t +ℤ same t) ∙ sym (total_more (λ (k : ℕ). get_or xs k (pos 0) *ℤ get_or ys k (pos 0)) i);
      bound = subst (λ (z : ℤ). unsigned_abs z ≤ (i + 1) * 2 ^ 88) (sym c.sum_within-sum.ensures) (omega (arith, size_sum c.loop-i.sum.raw c.mul_into-product.result.raw, c.loop-i.invariant.bound));
    }

pub returns : goal.returns
returns c = c.loop-i.invariant.value ∙ ap total (combined_counted (λ x y. x *ℤ y) c.args.xs.now c.args.ys.now c.loop-i.i (omega arith) (omega arith))
