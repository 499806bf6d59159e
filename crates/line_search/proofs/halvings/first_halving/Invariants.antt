use Rattle.std.proofs.Common.{ℕ, ◌<◌}
use Rattle.line_search.specs.Accepted.{IsAccepted}
use Rattle.line_search.proofs.HalvingCounts.{RisesBelow}
use Rattle.line_search.proofs.halvings.first_halving.Given as goal

-- no halving before is accepted
abbrev pub invariant-loop-half : goal.invariant-loop-half
invariant-loop-half l = record {
  none : (earlier : ℕ) → earlier < l.half → ¬ IsAccepted l.setup l.terms.frame l.x l.direction earlier;
  tally : RisesBelow l.setup l.terms.frame l.x l.direction l.half l.initial.tally.n l.tally.n;
}
