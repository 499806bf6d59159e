use Rattle.nearest.proofs.CloseParts.{apart}
use Rattle.nearest.proofs.laws.points_of_close_parts_are_near.Goals as goal

pub returns : goal.returns
returns c = apart
