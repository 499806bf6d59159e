use Rattle.plane_cut.proofs.Alternative.{separated_or}
use Rattle.plane_cut.proofs.laws.separated_or_meeting.Goals as goal

pub returns : goal.returns
returns c = separated_or
