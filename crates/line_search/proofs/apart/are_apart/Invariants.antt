use Rattle.std.proofs.Common.{◌*◌, take}
use Rattle.std.specs.Prelude.{All}
use Rattle.safe_motion.specs.declared.depth.TheConstants.{DEPTH}
use Rattle.pair_cert.specs.Tallies.{RisesAtMost, intervals_within}
use Rattle.line_search.proofs.AllPairs.{IsPairApart}
use Rattle.line_search.proofs.apart.are_apart.Given as goal

abbrev pub invariant-loop-pair : goal.invariant-loop-pair
invariant-loop-pair l = record {
  apart : All (IsPairApart l.surface l.x l.y) (take l.pair-index l.pairs);
  tally : RisesAtMost (intervals_within DEPTH * l.pair-index) l.initial.tally.n l.tally.n;
}
