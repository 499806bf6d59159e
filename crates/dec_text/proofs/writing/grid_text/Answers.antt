use Rattle.std.proofs.Common.{◌≡◌, ◌++◌, Err, unsigned_abs, ap, ◌∙◌, subst}
use Rattle.std.proofs.lemmas.Int.{to_z-of_z}
use Rattle.std.proofs.lemmas.Result.{err_from_is_err_and}
use Rattle.std.specs.Int.{w64}
use Rattle.dec_text.specs.AddsText.{AddsText}
use Rattle.dec_text.specs.GridText.{minus_text, size_text, grid_decimal}
use Rattle.dec_text.proofs.AddsText.{AddsText-append, AddsText-stops}
use Rattle.dec_text.proofs.GridTexts.{place_is_exact, read_back, small_enough}
use Rattle.dec_text.proofs.writing.grid_text.Goals as goal

pub returns-in_err-add_sign-clause-added : goal.returns-in_err-add_sign-clause-added
unfolding grid_decimal
returns-in_err-add_sign-clause-added c =
    let p = err_from_is_err_and c.from_residual.result c.from_residual.ensures.1 in
    let v = c.args.v in
    let sign = subst (λ z. AddsText (minus_text z) c.args.out.now.items (Err c.in_err-add_sign.field-0.0) c.add_sign.new.out.items) (to_z-of_z w64 v c.ranges.v) c.in_err-add_sign.ensures in
    rw p.1 (AddsText-stops (minus_text v) (size_text (unsigned_abs v) c.args.digits) _ _ _ p.0 sign)

pub returns-clause-added : goal.returns-clause-added
unfolding grid_decimal
returns-clause-added c =
    let v = c.args.v in
    let digits = c.args.digits in
    let old = c.args.out.now.items in
    let middle = c.add_sign.new.out.items in
    let sign : middle ≡ old ++ minus_text v = c.in_ok-add_sign.ensures.ok ∙ ap (λ z. old ++ minus_text z) (to_z-of_z w64 v c.ranges.v) in
    let size = subst (λ n. AddsText (size_text n digits) middle c.add_size.result c.add_size.new.out.items) (c.unsigned_abs.ensures.value ∙ ap unsigned_abs (to_z-of_z w64 v c.ranges.v)) c.add_size.ensures in
    AddsText-append (minus_text v) (size_text (unsigned_abs v) digits) old middle c.add_size.new.out.items c.add_size.result sign size

pub returns-clause-exact : goal.returns-clause-exact
returns-clause-exact c = place_is_exact c.args.v c.args.digits (small_enough c.args.v c.ranges.v)

pub returns-clause-read_back : goal.returns-clause-read_back
returns-clause-read_back c = λ few small. read_back c.args.v c.args.digits small

pub returns-in_err-add_sign-clause-exact : goal.returns-in_err-add_sign-clause-exact
returns-in_err-add_sign-clause-exact c = place_is_exact c.args.v c.args.digits (small_enough c.args.v c.ranges.v)

pub returns-in_err-add_sign-clause-read_back : goal.returns-in_err-add_sign-clause-read_back
returns-in_err-add_sign-clause-read_back c = λ few small. read_back c.args.v c.args.digits small
