use Rattle.std.proofs.Common.{refl, sym, ◌∙◌, subst, pos, ℤ, ◌*ℤ◌, ◌<ℤ◌, arith}
use Rattle.friction_lag.proofs.SmoothLengths.{thrice_square-pos, at_slip}
use Rattle.friction_lag.proofs.smooth.cubic_quotient.Goals as goal

pub div_floor_into-requires : goal.div_floor_into-requires
div_floor_into-requires c =
    let ne = c.number-e.ensures in
    let ee = c.mul_into-ee.ensures ∙ (λ i. ne i *ℤ ne i) in
    let divisor = c.mul_into-divisor.ensures ∙ (λ i. c.of_raw-three.ensures i *ℤ ee i) in
    (omega arith, (omega arith, (omega arith, (subst (λ (z : ℤ). pos 0 <ℤ z) (sym divisor) (thrice_square-pos (pos c.args.e) (at_slip c.args.e c.requires.low)), (refl, (omega arith, omega arith))))))
