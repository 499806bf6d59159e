use Rattle.std.proofs.Common.{sym, ◌∙◌, subst, pos, ℤ, ◌≤ℤ◌, ◌<◌, ◌^◌, unsigned_abs, arith}
use Rattle.friction_lag.proofs.SmoothLengths.{rate_is, small_rate}
use Rattle.friction_lag.proofs.smooth.rate_below.Goals as goal

pub narrowed_into-requires : goal.narrowed_into-requires
narrowed_into-requires c =
    let h = rate_is c.args.y c.args.e c.requires.below c.requires.low in
    (omega arith, (omega arith, (subst (λ (z : ℤ). unsigned_abs z < 2 ^ 26) (sym c.rate_quotient.ensures) (small_rate _ h.not_negative h.bound), omega arith)))

pub returns-clause-not_negative : goal.returns-clause-not_negative
returns-clause-not_negative c =
    subst (λ (z : ℤ). pos 0 ≤ℤ z) (sym (c.narrowed_into.ensures ∙ c.rate_quotient.ensures)) (rate_is c.args.y c.args.e c.requires.below c.requires.low).not_negative

pub returns-clause-bound : goal.returns-clause-bound
returns-clause-bound c =
    subst (λ (z : ℤ). z ≤ℤ pos (2 ^ 25)) (sym (c.narrowed_into.ensures ∙ c.rate_quotient.ensures)) (rate_is c.args.y c.args.e c.requires.below c.requires.low).bound
