use Rattle.space3.proofs.BoxLemmas.{box-joined}
use Rattle.space3.proofs.boxes.box_around_is_of_joined_list.Goals as goal

pub returns : goal.returns
returns c = box-joined
