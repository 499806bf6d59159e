use Rattle.potential_sum.proofs.Lightness.{light_at}
use Rattle.potential_sum.proofs.pulls.add_pulls.Goals as goal

pub wide_sum-requires-clause-left : goal.wide_sum-requires-clause-left
wide_sum-requires-clause-left c = light_at c.args.sums.now c.loop-pull.sums c.args.pulls.now c.loop-pull.pull-index _ c.requires.few c.requires.pulls c.requires.small c.loop-pull.invariant
