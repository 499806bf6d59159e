use Rattle.std.proofs.Common.{refl, sym, ◌∙◌, subst, pos, ℤ, ◌*ℤ◌, ◌<ℤ◌, arith}
use Rattle.whole_laws.proofs.Order.{mul_pos_ℤ}
use Rattle.friction_lag.proofs.SmoothLengths.{at_slip}
use Rattle.friction_lag.proofs.smooth.rate_quotient.Goals as goal

pub div_floor_into-requires : goal.div_floor_into-requires
div_floor_into-requires c =
    let ne = c.number-e.ensures in
    let ee = c.mul_into-ee.ensures ∙ (λ i. ne i *ℤ ne i) in
    let e = at_slip c.args.e c.requires.low in
    (omega arith, (omega arith, (omega arith, (subst (λ (z : ℤ). pos 0 <ℤ z) (sym ee) (mul_pos_ℤ (pos c.args.e) (pos c.args.e) e e), (refl, (omega arith, omega arith))))))
