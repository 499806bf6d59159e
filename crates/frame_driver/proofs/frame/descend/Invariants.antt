use Rattle.std.proofs.Common.{◌≡◌, length}
use Rattle.potential_sum.specs.Potential.{potential}
use Rattle.potential_sum.specs.Terms.{StandFor}
use Rattle.frame_driver.specs.Calls.Descents.{HasCome}
use Rattle.frame_driver.proofs.frame.descend.Given as goal

abbrev pub invariant-loop-taken : goal.invariant-loop-taken
invariant-loop-taken l = record {
  come : HasCome l.setup l.tol l.terms.frame l.keep l.now l.x l.notes.items l.taken;
  upper : l.upper ≡ potential l.setup l.terms.frame l.x;
  frame : l.terms.frame ≡ l.initial.terms.frame;
  stand : StandFor l.setup l.terms;
  room : length l.work ≡ length l.initial.work;
}
