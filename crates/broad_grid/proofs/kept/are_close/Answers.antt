use Rattle.std.proofs.Common.{◌∙◌, ◌&&◌}
use Rattle.space3.proofs.BoxLemmas.{corners_within}
use Rattle.broad_grid.proofs.kept.are_close.Goals as goal

pub returns : goal.returns
returns c = (λ i. c.is_corner_close.ensures i && c.is_corner_close-2.ensures i) ∙ corners_within c.args.reach c.args.a.now c.args.b.now
