use Rattle.std.proofs.Common.{◌≡◌, ◌+◌, ◌-◌, ◌*◌, ◌^◌, ◌++◌, min, refl, sym, ap, ◌∙◌, subst, arith}
use Rattle.std.proofs.lemmas.Nat.{pow-add}
use Rattle.std.specs.Str.Parse.{digits_value}
use Rattle.dec_text.specs.Calls.Quotient.{IsQuotient}
use Rattle.dec_text.proofs.Digits.{ten_pos}
use Rattle.dec_text.proofs.Quotients.{multiplied_quotient, grown_quotient}
use Rattle.dec_text.proofs.quotient.quotient_of.Goals as goal

pub returns-then-up-down : goal.returns-then-up-down
returns-then-up-down c =
    let n = digits_value 10 (c.args.whole.now ++ c.args.fraction.now) in
    let up = c.args.up in
    let down = c.args.down in
    let gap : down - up + up ≡ down = omega arith in
    let power : 10 ^ (down - up) * 10 ^ up ≡ 10 ^ down = sym (pow-add 10 (down - up) up) ∙ ap (λ k. 10 ^ k) gap in
    subst (λ d. IsQuotient (n * 10 ^ up) d c.lowered_quotient.result) power (multiplied_quotient n (10 ^ (down - up)) (10 ^ up) _ (ten_pos (down - up)) (ten_pos up) c.lowered_quotient.ensures)

pub returns-else-up-down : goal.returns-else-up-down
returns-else-up-down c =
    let n = digits_value 10 (c.args.whole.now ++ c.args.fraction.now) in
    let below = c.if-up-down.false in
    grown_quotient n c.args.up c.args.down _ below (c.with_zeros.ensures ∙ ap (λ m. min (m * 10 ^ (c.args.up - c.args.down)) (2 ^ 64 - 1)) c.number_of_pieces.ensures) refl refl
