use Rattle.boundary.proofs.OneOutcome.{one_surface_outcome}
use Rattle.boundary.proofs.laws.one_surface_outcome.Goals as goal

pub returns : goal.returns
returns c = one_surface_outcome
