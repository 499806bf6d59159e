use Rattle.std.proofs.Common.{◌∙◌}
use Rattle.std.specs.Prelude.{◌&&◌}
use Rattle.space3.proofs.BoxLemmas.{corners_within}
use Rattle.space3.proofs.boxes.are_within.Goals as goal

pub returns : goal.returns
returns c = (λ i. c.is_corner_within.ensures i && c.is_corner_within-2.ensures i) ∙ corners_within c.args.reach c.args.a.now c.args.b.now
