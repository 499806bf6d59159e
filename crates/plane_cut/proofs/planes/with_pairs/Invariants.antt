use Rattle.plane_cut.specs.Calls.Elimination.{ServesPair}
use Rattle.plane_cut.specs.Calls.Cones.{Narrows}
use Rattle.plane_cut.proofs.Narrowing.{First}
use Rattle.plane_cut.proofs.planes.with_pairs.Given as goal

abbrev pub invariant-loop-i : goal.invariant-loop-i
invariant-loop-i l = Narrows l.fn.start (First (λ n q. ServesPair n l.fn.p q) l.rows l.i) l.cone
