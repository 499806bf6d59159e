use Rattle.std.proofs.Common.{◌∙◌}
use Rattle.line_search.proofs.AllPairs.{moving_are_pairs, moving_tell, rises_by_touching}
use Rattle.line_search.proofs.apart.are_pairs_apart.Goals as goal

pub are_apart-requires-clause-pairs : goal.are_apart-requires-clause-pairs
are_apart-requires-clause-pairs c = moving_are_pairs c.args.setup.now.surface c.args.x.now c.args.y.now c.items.result.now (c.items.ensures ∙ c.in_ok-moving.ensures)

pub returns-clause-apart : goal.returns-clause-apart
returns-clause-apart c =
    moving_tell c.args.setup.now c.args.x.now c.args.y.now c.items.result.now c.are_apart.result c.requires.built c.requires.safe
    (c.items.ensures ∙ c.in_ok-moving.ensures) c.are_apart.ensures.apart

pub returns-clause-tally : goal.returns-clause-tally
returns-clause-tally c =
    rises_by_touching c.args.setup.now c.args.x.now c.args.y.now c.items.result.now c.args.tally.now.n c.are_apart.new.tally.n (c.items.ensures ∙ c.in_ok-moving.ensures) c.are_apart.ensures.tally
