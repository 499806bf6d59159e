use Rattle.std.proofs.Common.{sym, ◌∙◌, subst, pos, ℤ, ◌+ℤ◌, ◌-ℤ◌, ◌*ℤ◌, ◌≤ℤ◌, ◌^◌, arith}
use Rattle.num_q.specs.Rounding.{floor_of}
use Rattle.fixed_log.specs.Logarithm.{ln_ratio_of}
use Rattle.barrier_term.proofs.Steepness.{turned, ratio_above, steep}
use Rattle.barrier_term.proofs.active.Active.steepness.Goals as goal

pub returns-clause-value : goal.returns-clause-value
returns-clause-value c =
    let d = c.args.self.distance in
    let e = c.args.self.reach in
    let ratio = c.div_floor_into-ratio.ensures ∙ (λ i. floor_of (c.reach_number.ensures i *ℤ pos (2 ^ 24)) (c.distance_number-distance.ensures.value i)) in
    let twice = c.mul_into-twice.ensures ∙ (λ i. c.of_raw-two.ensures i *ℤ c.logarithm.ensures.value i) in
    let sum = c.add_into-sum.ensures ∙ (λ i. twice i +ℤ ratio i) in
    c.sub_into.ensures ∙ (λ i. sum i -ℤ c.of_raw-one.ensures i) ∙ turned (ln_ratio_of d e) (floor_of (pos e *ℤ pos (2 ^ 24)) (pos d)) (pos (2 ^ 24))

pub returns-clause-not_negative : goal.returns-clause-not_negative
returns-clause-not_negative c =
    let d = c.args.self.distance in
    let e = c.args.self.reach in
    let ratio = c.div_floor_into-ratio.ensures ∙ (λ i. floor_of (c.reach_number.ensures i *ℤ pos (2 ^ 24)) (c.distance_number-distance.ensures.value i)) in
    let twice = c.mul_into-twice.ensures ∙ (λ i. c.of_raw-two.ensures i *ℤ c.logarithm.result.raw) in
    let sum = c.add_into-sum.ensures ∙ (λ i. twice i +ℤ ratio i) in
    subst (λ (z : ℤ). pos 0 ≤ℤ z) (sym (c.sub_into.ensures ∙ (λ i. sum i -ℤ c.of_raw-one.ensures i)))
    (steep c.logarithm.result.raw (floor_of (pos e *ℤ pos (2 ^ 24)) (pos d)) c.logarithm.ensures.not_negative (ratio_above d e c.args.self.some (omega (arith, c.args.self.inside))))
