use Rattle.std.proofs.Common.{◌^◌, subst, sym, lit<, lit≤}
use Rattle.std.specs.Int.{w128}
use Rattle.whole_laws.proofs.Order.{size_back}
use Rattle.space3.specs.Vectors.{AtMost}
use Rattle.space3.proofs.Bounds.{determinant_size}
use Rattle.space3.proofs.mesh.rest_det.Goals as goal

pub returns-clause-bound : goal.returns-clause-bound
returns-clause-bound c =
    let size : AtMost (2 ^ 66) c.det.result =
    subst (AtMost (2 ^ 66)) (sym c.det.ensures) (determinant_size (2 ^ 21) (2 ^ 66) c.edge-u.result c.edge-v.result c.edge-w.result c.edge-u.ensures.bound c.edge-v.ensures.bound c.edge-w.ensures.bound (lit≤ tt)) in
    record { bound = size_back w128 c.det.result (2 ^ 66) (2 ^ 66) size.bound (lit< tt) (lit≤ tt) }
