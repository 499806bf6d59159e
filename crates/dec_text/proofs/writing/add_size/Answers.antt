use Rattle.std.proofs.Common.{◌/◌, ◌%◌, ◌^◌, ◌++◌, Err, subst}
use Rattle.std.proofs.lemmas.Result.{err_from_is_err_and}
use Rattle.std.specs.Prelude.{decimal}
use Rattle.dec_text.specs.AddsText.{AddsText}
use Rattle.dec_text.specs.GridText.{fraction_text}
use Rattle.dec_text.proofs.AddsText.{AddsText-append, AddsText-stops}
use Rattle.dec_text.proofs.writing.add_size.Goals as goal

pub returns-in_err-add_whole : goal.returns-in_err-add_whole
returns-in_err-add_whole c =
    let p = err_from_is_err_and c.from_residual.result c.from_residual.ensures.1 in
    let size = c.args.size in
    let digits = c.args.digits in
    let whole = subst (λ u. AddsText (decimal (size / u)) c.args.out.now.items (Err c.in_err-add_whole.field-0.0) c.add_whole.new.out.items) c.ten_to-unit.ensures.value c.in_err-add_whole.ensures in
    rw p.1 (AddsText-stops (decimal (size / 10 ^ digits)) (fraction_text digits (size % 10 ^ digits)) _ _ _ p.0 whole)

pub returns : goal.returns
returns c =
    let size = c.args.size in
    let digits = c.args.digits in
    let old = c.args.out.now.items in
    let new = c.add_fraction.new.out.items in
    let result = c.add_fraction.result in
    let value = c.ten_to-unit.ensures.value in
    subst (λ u. AddsText (decimal (size / u) ++ fraction_text digits (size % u)) old result new) value
    (AddsText-append (decimal (size / c.ten_to-unit.result)) (fraction_text digits (size % c.ten_to-unit.result)) old c.add_whole.new.out.items new result c.in_ok-add_whole.ensures.ok c.add_fraction.ensures)
