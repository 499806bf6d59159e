use Rattle.std.proofs.Common.{◌≡◌, List, subst}
use Rattle.std.specs.Prelude.{IfOk}
use Rattle.boundary.specs.declared.pairs.Pair.{Pair}
use Rattle.broad_grid.proofs.RowsOfPairs.{close_as_near}
use Rattle.broad_grid.proofs.pairs.close_pairs.Goals as goal

pub returns : goal.returns
returns c =
    subst (λ (list : List Pair). IfOk c.near_pairs.result (λ pairs. pairs ≡ list))
    (close_as_near c.args.reach c.args.surface.now c.args.x.now) c.near_pairs.ensures.pairs
