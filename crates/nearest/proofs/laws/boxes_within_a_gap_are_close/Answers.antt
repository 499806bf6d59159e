use Rattle.nearest.proofs.CloseParts.{close_by}
use Rattle.nearest.proofs.laws.boxes_within_a_gap_are_close.Goals as goal

pub returns : goal.returns
returns c = close_by
