use Rattle.boundary.proofs.OneSurface.{one_surface}
use Rattle.boundary.proofs.surface.mesh_has_one_surface.Goals as goal

pub returns : goal.returns
returns c = one_surface
