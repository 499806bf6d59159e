use Rattle.boundary.proofs.SomeOutcome.{some_surface_outcome}
use Rattle.boundary.proofs.laws.each_mesh_has_a_surface_outcome.Goals as goal

pub returns : goal.returns
returns c = some_surface_outcome
