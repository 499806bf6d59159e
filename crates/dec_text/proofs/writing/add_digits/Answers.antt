use Rattle.std.proofs.Common.{◌≡◌, ◌+◌, ◌-◌, ◌*◌, ◌/◌, ◌%◌, ◌^◌, ◌<◌, [], ◌∷◌, sym, ap, ◌∙◌, subst, arith}
use Rattle.std.proofs.Math.Nat.{mod-lt}
use Rattle.std.proofs.lemmas.Result.{err_from_is_err_and}
use Rattle.dec_text.specs.GridText.{fraction_digits}
use Rattle.dec_text.proofs.AddsText.{FrontAdded, FrontAdded-more, AddsText-all, AddsText-front}
use Rattle.dec_text.proofs.FractionDigits.{fraction_digits-none, fraction_digits-more, ten_times_more}
use Rattle.dec_text.proofs.writing.add_digits.Goals as goal

pub digit_of-requires-clause-below : goal.digit_of-requires-clause-below
digit_of-requires-clause-below c =
    let l = c.loop-left in
    let more : 10 ^ l.places ≡ 10 * 10 ^ (l.places - 1) = ten_times_more l.places l.left c.loop-left-test.true l.invariant.below in
    omega (arith, c.ten_to-unit.ensures.value, l.invariant.below)

pub returns-in_err-push : goal.returns-in_err-push
returns-in_err-push c =
    let p = err_from_is_err_and c.from_residual.result c.from_residual.ensures.1 in
    let old = c.args.out.now.items in
    let text = fraction_digits c.args.digits c.args.rest in
    let end = fraction_digits c.loop-left.places c.loop-left.left in
    rw p.1 (AddsText-front old c.push.new.self.items text end p.0 (subst (λ new. FrontAdded old new text end) (sym c.in_err-push.ensures.items) c.loop-left.invariant.front))

pub loop-left-preserved : goal.loop-left-preserved
loop-left-preserved c =
    let l = c.loop-left in
    let unit = c.ten_to-unit.ensures in
    let old = c.args.out.now.items in
    let text = fraction_digits c.args.digits c.args.rest in
    let places = l.places - 1 in
    let digit : c.digit_of.result ≡ 48 + l.left / 10 ^ places = c.digit_of.ensures ∙ ap (λ u. 48 + l.left / u) unit.value in
    let more : fraction_digits l.places l.left ≡ c.digit_of.result ∷ fraction_digits places (l.left % 10 ^ places) =
    fraction_digits-more l.places l.left c.loop-left-test.true l.invariant.below ∙ ap (λ b. b ∷ fraction_digits places (l.left % 10 ^ places)) (sym digit) in
    let next = FrontAdded-more old l.out.items c.push.new.self.items text (fraction_digits places (l.left % 10 ^ places)) c.digit_of.result
    (subst (λ end. FrontAdded old l.out.items text end) more l.invariant.front) c.in_ok-push.ensures.items in
    record {
      few = omega arith;
      below = subst (λ u. l.left % c.ten_to-unit.result < u) unit.value (mod-lt l.left unit.positive);
      front = subst (λ u. FrontAdded old c.push.new.self.items text (fraction_digits places (l.left % u))) (sym unit.value) next;
    }

pub returns : goal.returns
returns c =
    let l = c.loop-left in
    let zero : l.left ≡ 0 = omega arith in
    let none : fraction_digits l.places l.left ≡ [] = ap (λ n. fraction_digits l.places n) zero ∙ fraction_digits-none l.places in
    AddsText-all c.args.out.now.items l.out.items (fraction_digits c.args.digits c.args.rest) tt (subst (λ end. FrontAdded c.args.out.now.items l.out.items (fraction_digits c.args.digits c.args.rest) end) none l.invariant.front)
