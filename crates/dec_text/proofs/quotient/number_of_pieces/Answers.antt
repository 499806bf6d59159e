use Rattle.std.proofs.Common.{◌≡◌, ◌+◌, ◌-◌, ◌*◌, ◌^◌, min, length, sym, ap, ◌∙◌, arith}
use Rattle.std.specs.Str.Parse.{digits_value}
use Rattle.dec_text.proofs.Digits.{digits_value-append, ten_pos}
use Rattle.dec_text.proofs.Quotients.{saturated_join}
use Rattle.dec_text.proofs.quotient.number_of_pieces.Goals as goal

pub returns : goal.returns
returns c =
    let front = c.args.front.now in
    let back = c.args.back.now in
    let read : c.number_behind.result ≡ min (digits_value 10 front) (2 ^ 64 - 1) = omega (arith, c.number_behind.ensures) in
    c.number_behind-2.ensures
    ∙ ap (λ n. min (n * 10 ^ length back + digits_value 10 back) (2 ^ 64 - 1)) read
    ∙ saturated_join (digits_value 10 front) (10 ^ length back) (digits_value 10 back) (ten_pos (length back))
    ∙ ap (λ n. min n (2 ^ 64 - 1)) (sym (digits_value-append front back))
