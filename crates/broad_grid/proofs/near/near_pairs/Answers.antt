use Rattle.std.proofs.Common.{◌∙◌, ◌++◌, ap}
use Rattle.broad_grid.specs.Calls.Rows.{near_rows_of_kinds}
use Rattle.broad_grid.proofs.PlacedParts.{as_many}
use Rattle.broad_grid.proofs.RowsOfPairs.{rows_are_wanted_pairs}
use Rattle.broad_grid.proofs.near.near_pairs.Goals as goal

pub append_kinds-requires-clause-boxes : goal.append_kinds-requires-clause-boxes
append_kinds-requires-clause-boxes c =
    as_many c.args.surface.now c.args.x0.now c.args.x1.now c.in_ok-boxes.boxes c.in_ok-boxes.ensures

pub returns-clause-pairs : goal.returns-clause-pairs
returns-clause-pairs c =
    let s = c.args.surface.now in
    c.of_vec.ensures
    ∙ c.in_ok-append_kinds.ensures.pairs
    ∙ ap (λ start. start ++ near_rows_of_kinds c.args.loose c.args.reach s c.in_ok-boxes.boxes c.args.kinds.now) c.new-pairs.ensures.items
    ∙ rows_are_wanted_pairs c.args.loose c.args.reach s c.args.x0.now c.args.x1.now c.in_ok-boxes.boxes c.args.kinds.now c.in_ok-boxes.ensures
