use Rattle.std.proofs.Common.{◌^◌, subst, sym, lit≤}
use Rattle.space3.specs.Vectors.{Within}
use Rattle.space3.proofs.Bounds.{within-difference}
use Rattle.space3.proofs.mesh.edge.Goals as goal

pub returns-clause-bound : goal.returns-clause-bound
returns-clause-bound c = subst (Within (2 ^ 21)) (sym c.sub.ensures) (within-difference (2 ^ 20) (2 ^ 20) (2 ^ 21) c.get.result c.get-2.result c.get.ensures.in_box c.get-2.ensures.in_box (lit≤ tt))
