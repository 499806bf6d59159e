use Rattle.std.proofs.Common.{refl, sym, subst, pos, ℤ, ◌<ℤ◌, arith}
use Rattle.whole_laws.proofs.Order.{mul_pos_ℤ}
use Rattle.barrier_term.proofs.block.curvature.Goals as goal

pub div_floor_into-quotient-requires : goal.div_floor_into-quotient-requires
div_floor_into-quotient-requires c =
    let d = c.distance_number-distance in
    (omega arith, (omega arith, (omega arith, (subst (λ (z : ℤ). pos 0 <ℤ z) (sym c.mul_into-squared.ensures) (mul_pos_ℤ d.result.raw d.result.raw d.ensures.positive d.ensures.positive), (refl, (omega arith, omega arith))))))
