use Rattle.std.proofs.Common.{◌^◌, ◌<◌, ◌≤◌}
use Rattle.dec_text.specs.GridText.{fraction_digits}
use Rattle.dec_text.proofs.AddsText.{FrontAdded}
use Rattle.dec_text.proofs.writing.add_digits.Given as goal

abbrev pub invariant-loop-left : goal.invariant-loop-left
invariant-loop-left l = record {
  few : l.places ≤ 18;
  below : l.left < 10 ^ l.places;
  front : FrontAdded l.fn.out.items l.out.items (fraction_digits l.digits l.rest) (fraction_digits l.places l.left);
}

abbrev pub decreases-loop-left : goal.decreases-loop-left
decreases-loop-left l = l.places
