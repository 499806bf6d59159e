use Rattle.space3.proofs.BoxLemmas.{touch-is}
use Rattle.space3.proofs.boxes.boxes_touch_at_reach_zero.Goals as goal

pub returns : goal.returns
returns c = touch-is
