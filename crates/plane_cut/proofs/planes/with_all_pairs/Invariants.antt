use Rattle.std.proofs.Common.{take}
use Rattle.plane_cut.specs.Calls.Elimination.{ServesPairs}
use Rattle.plane_cut.specs.Calls.Cones.{Narrows}
use Rattle.plane_cut.proofs.Narrowing.{First}
use Rattle.plane_cut.proofs.planes.with_all_pairs.Given as goal

abbrev pub invariant-loop-i : goal.invariant-loop-i
invariant-loop-i l = Narrows l.fn.start (First (λ n p. ServesPairs n (take l.count l.rows) p) l.rows l.i) l.cone
