use Rattle.std.proofs.Common.{◌≡◌, [], ◌∷◌, eqb, false, arith}
use Rattle.std.proofs.lemmas.Bool.Decides.{nat_tests}
use Rattle.dec_text.specs.GridText.{fraction_digits}
use Rattle.dec_text.proofs.AddsText.{AddsText-append}
use Rattle.dec_text.proofs.writing.add_fraction.Goals as goal

pub returns : goal.returns
returns c =
    let some : eqb c.args.rest 0 ≡ false = grind (arith, nat_tests) in
    rw some (AddsText-append (46 ∷ []) (fraction_digits c.args.digits c.args.rest) c.args.out.now.items c.push.new.self.items c.add_digits.new.out.items c.add_digits.result c.in_ok-push.ensures.items c.add_digits.ensures)
