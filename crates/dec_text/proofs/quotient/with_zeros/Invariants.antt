use Rattle.std.proofs.Common.{◌≡◌, ◌-◌, ◌*◌, ◌^◌, min}
use Rattle.dec_text.proofs.quotient.with_zeros.Given as goal

abbrev pub invariant-loop-turn : goal.invariant-loop-turn
invariant-loop-turn l = l.value ≡ min (l.number * 10 ^ l._turn) (2 ^ 64 - 1)
