use Rattle.std.proofs.Common.{take}
use Rattle.plane_cut.proofs.Narrowing.{decides_plane}
use Rattle.plane_cut.proofs.planes.cone_of.Goals as goal

pub returns : goal.returns
returns c = decides_plane (take c.args.count c.args.rows.now) c.in_ok-cone.cone c.with_all_pairs.result c.in_ok-cone.ensures c.with_all_pairs.ensures
