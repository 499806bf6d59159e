use Rattle.std.proofs.Common.{◌≡◌, ◌+◌, ◌-◌, ◌*◌, ◌^◌, min, take}
use Rattle.std.specs.Str.Parse.{digits_value}
use Rattle.dec_text.proofs.quotient.number_behind.Given as goal

abbrev pub invariant-loop-digit : goal.invariant-loop-digit
invariant-loop-digit l =
    l.value ≡ min (l.fn.start * 10 ^ l.digit-index + digits_value 10 (take l.digit-index l.digits)) (2 ^ 64 - 1)
