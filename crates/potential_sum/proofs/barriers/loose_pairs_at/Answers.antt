use Rattle.std.proofs.Common.{◌∙◌}
use Rattle.std.proofs.lemmas.Result.{IfOk-weaker}
use Rattle.broad_grid.specs.Held.{loose_close_pairs_of}
use Rattle.broad_grid.proofs.KeptAll.{kept_are_pairs}
use Rattle.potential_sum.proofs.barriers.loose_pairs_at.Goals as goal

pub close-requires-clause-pairs : goal.close-requires-clause-pairs
close-requires-clause-pairs c = kept_are_pairs c.args.setup.now.surface c.args.kept.now c.requires.kept.whole

pub returns : goal.returns
returns c =
    IfOk-weaker c.close.result _ _
    (λ pairs found. found c.requires.kept.whole ∙ (λ i. loose_close_pairs_of (c.requires.kept.fixed i) (c.requires.kept.reach i) c.args.setup.now.surface c.args.x.now))
    c.close.ensures.whole
