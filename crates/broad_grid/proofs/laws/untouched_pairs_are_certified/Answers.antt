use Rattle.broad_grid.proofs.Untouched.{untouched_certified}
use Rattle.broad_grid.proofs.laws.untouched_pairs_are_certified.Goals as goal

pub returns : goal.returns
returns c = untouched_certified
