use Rattle.std.proofs.Common.{rules}
use Rattle.std.specs.Prelude.{◌&&◌}
use Rattle.space3.proofs.BoxLemmas.{past_test}
use Rattle.space3.proofs.boxes.is_corner_within.Goals as goal

pub returns : goal.returns
returns c = λ i.
    past_test c.is_past_by_at_most.result c.args.reach c.args.a.x c.args.b.x (search rules) (search rules) c.is_past_by_at_most.ensures i
    && past_test c.is_past_by_at_most-2.result c.args.reach c.args.a.y c.args.b.y (search rules) (search rules) c.is_past_by_at_most-2.ensures i
    && past_test c.is_past_by_at_most-3.result c.args.reach c.args.a.z c.args.b.z (search rules) (search rules) c.is_past_by_at_most-3.ensures i
