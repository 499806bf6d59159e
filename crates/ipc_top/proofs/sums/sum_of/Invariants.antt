use Rattle.ipc_top.proofs.PlaceSums.{SumSoFar}
use Rattle.ipc_top.proofs.sums.sum_of.Given as goal

abbrev pub invariant-loop-node : goal.invariant-loop-node
invariant-loop-node l = SumSoFar l.places l.node l.sum
