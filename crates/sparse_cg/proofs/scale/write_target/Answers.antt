use Rattle.std.proofs.Common.{ℕ, ◌∙◌, ◌^◌, ◌<◌, ℤ, pos, neg_ℤ, unsigned_abs, get_or, ap, arith}
use Rattle.num_q.specs.Rounding.{floor_of}
use Rattle.sparse_cg.specs.Calls.Lists.{target_number}
use Rattle.sparse_cg.proofs.Fronts.{front_kept, front_value, map_counted}
use Rattle.sparse_cg.proofs.scale.write_target.Goals as goal

pub loop-i-preserved : goal.loop-i-preserved
loop-i-preserved c =
    front_kept (λ (k : ℕ). target_number c.args.shift (get_or c.args.slopes.now k (pos 0))) c.loop-i.out c.loop-i.i c.kept.result (omega arith)
    (c.kept.ensures.value ∙ c.target_number.ensures ∙ ap (λ (z : ℤ). floor_of (neg_ℤ z) (pos (2 ^ c.args.shift))) c.slope_at.ensures) c.kept.ensures.short c.loop-i.invariant

pub returns-clause-value : goal.returns-clause-value
returns-clause-value c =
    front_value (λ (x : ℤ). unsigned_abs x < 2 ^ 44) (λ (k : ℕ). target_number c.args.shift (get_or c.args.slopes.now k (pos 0))) c.loop-i.out c.loop-i.i (omega arith) c.loop-i.invariant
    ∙ map_counted (target_number c.args.shift) c.args.slopes.now c.loop-i.i (omega arith)
