use Rattle.std.proofs.Common.{◌≡◌, ◌-◌, refl, ap, ◌∙◌, arith}
use Rattle.fixed_log.specs.Logarithm.{lg_bits}
use Rattle.fixed_log.proofs.Bits.{lg_bits-zero, turn, turn_below}
use Rattle.fixed_log.proofs.Monotone.{lg_bits-lt}
use Rattle.fixed_log.proofs.logarithm.bits_behind.Goals as goal

pub overflow_add-bits : goal.overflow_add-bits
overflow_add-bits c =
    omega (arith, c.loop-turn.invariant.together, lg_bits-lt 24 c.args.mantissa, turn c.loop-turn.turn c.loop-turn.y c.square-z.result _ c.loop-turn-test.true c.square-z.ensures.value c.square-z.ensures.below refl)

pub loop-turn-preserved : goal.loop-turn-preserved
loop-turn-preserved c =
    let next = turn c.loop-turn.turn c.loop-turn.y c.square-z.result _ c.loop-turn-test.true c.square-z.ensures.value c.square-z.ensures.below refl in
    record { together = omega (arith, next, c.loop-turn.invariant.together); below = turn_below c.square-z.result _ c.square-z.ensures.below refl }

pub returns-clause-value : goal.returns-clause-value
returns-clause-value c =
    let last : 24 - c.loop-turn.turn ≡ 0 = omega arith in
    let none : lg_bits (24 - c.loop-turn.turn) c.loop-turn.y ≡ 0 = ap (λ n. lg_bits n c.loop-turn.y) last ∙ lg_bits-zero c.loop-turn.y in
    omega (arith, none, c.loop-turn.invariant.together)

pub returns-clause-below : goal.returns-clause-below
returns-clause-below c = omega (arith, c.loop-turn.invariant.together, lg_bits-lt 24 c.args.mantissa)
