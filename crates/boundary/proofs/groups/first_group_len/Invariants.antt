use Rattle.boundary.proofs.GroupCuts.{AreAlikeBelow}
use Rattle.boundary.proofs.groups.first_group_len.Given as goal

abbrev pub invariant-loop-k : goal.invariant-loop-k
invariant-loop-k l = AreAlikeBelow l.faces l.k
