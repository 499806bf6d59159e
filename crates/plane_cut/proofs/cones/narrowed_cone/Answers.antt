use Rattle.std.proofs.Common.{pos, ◌<ℤ◌, sym, subst}
use Rattle.space3.specs.Vectors.{dot_product}
use Rattle.plane_cut.specs.declared.cones.Cone.{Cone}
use Rattle.plane_cut.specs.Calls.Cones.{as_row, NarrowsOrNone}
use Rattle.plane_cut.proofs.cones.narrowed_cone.Goals as goal

pub returns-in-Ray : goal.returns-in-Ray
returns-in-Ray c = subst (λ (k : Cone). NarrowsOrNone k (λ n. pos 0 <ℤ dot_product n (as_row c.args.row)) c.opened_ray.result) (sym c.in-Ray.is) c.opened_ray.ensures

pub returns-in-Wedge : goal.returns-in-Wedge
returns-in-Wedge c = subst (λ (k : Cone). NarrowsOrNone k (λ n. pos 0 <ℤ dot_product n (as_row c.args.row)) c.widened_wedge.result) (sym c.in-Wedge.is) c.widened_wedge.ensures
