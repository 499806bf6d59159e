use Rattle.std.proofs.Common.{◌≡◌, ◌+◌, ◌-◌, ◌*◌, ◌^◌, min, ap, ◌∙◌, arith}
use Rattle.std.proofs.lemmas.Nat.{pow-add}
use Rattle.dec_text.proofs.Quotients.{zeros_at_most, saturated_more}
use Rattle.dec_text.proofs.quotient.with_zeros.Goals as goal

pub returns : goal.returns
returns c =
    let turns : c.loop-turn._turn ≡ min c.args.zeros 20 = omega arith in
    c.loop-turn.invariant
    ∙ ap (λ k. min (c.args.number * 10 ^ k) (2 ^ 64 - 1)) turns
    ∙ zeros_at_most c.args.number c.args.zeros

pub loop-turn-preserved : goal.loop-turn-preserved
loop-turn-preserved c =
    let power : 10 ^ c.loop-turn._turn * 10 ≡ 10 ^ (c.loop-turn._turn + 1) = omega (arith, pow-add 10 c.loop-turn._turn 1) in
    c.saturating_mul-value.ensures
    ∙ ap (λ m. min (m * 10) (2 ^ 64 - 1)) c.loop-turn.invariant
    ∙ saturated_more c.args.number (10 ^ c.loop-turn._turn)
    ∙ ap (λ p. min (c.args.number * p) (2 ^ 64 - 1)) power
