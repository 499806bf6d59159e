use Rattle.space3.proofs.BoxLemmas.{corners_keep_bound}
use Rattle.space3.proofs.boxes.box_corners_keep_bounds.Goals as goal

pub returns-clause-least : goal.returns-clause-least
returns-clause-least c = λ bound p points h. (corners_keep_bound bound p points h).0

pub returns-clause-greatest : goal.returns-clause-greatest
returns-clause-greatest c = λ bound p points h. (corners_keep_bound bound p points h).1
