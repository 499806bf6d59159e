use Rattle.std.proofs.Common.{arith}
use Rattle.box_grid.proofs.Sides.{sides_below}
use Rattle.box_grid.proofs.sizes.great_side.Goals as goal

pub returns-clause-few_cells : goal.returns-clause-few_cells
returns-clause-few_cells c =
    sides_below c.args.boxes.now c.longest_of_all-longest.result c.max-2.result c.longest_of_all-longest.ensures (omega (arith, c.max.ensures, c.max-2.ensures))
