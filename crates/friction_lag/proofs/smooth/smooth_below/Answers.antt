use Rattle.std.proofs.Common.{sym, ◌∙◌, subst, ℤ, ◌≤ℤ◌, ◌<◌, ◌^◌, unsigned_abs, arith}
use Rattle.friction_lag.specs.Friction.{smooth_length}
use Rattle.friction_lag.proofs.SmoothLengths.{small_length, length_below, least_length}
use Rattle.friction_lag.proofs.smooth.smooth_below.Goals as goal

pub narrowed_into-requires : goal.narrowed_into-requires
narrowed_into-requires c =
    let y = c.args.y in
    let e = c.args.e in
    (omega arith, (omega arith, (subst (λ (z : ℤ). unsigned_abs z < 2 ^ 42) (sym (c.cubic_quotient.ensures ∙ length_below y e c.requires.below)) (small_length y e c.requires.below c.requires.low c.requires.high), omega arith)))

pub returns-clause-least : goal.returns-clause-least
returns-clause-least c =
    subst (λ (z : ℤ). smooth_length 0 c.args.e ≤ℤ z) (sym (c.narrowed_into.ensures ∙ c.cubic_quotient.ensures)) (least_length c.args.y c.args.e c.requires.low)
