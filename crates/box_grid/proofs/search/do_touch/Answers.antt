use Rattle.box_grid.proofs.WideBoxes.{first_decides, second_decides}
use Rattle.box_grid.proofs.search.do_touch.Goals as goal

pub returns-then-is_before : goal.returns-then-is_before
returns-then-is_before c =
    second_decides c.args.a.now c.args.b.now c.is_before.result c.is_before-then-is_before.result c.if-is_before.true c.is_before.ensures c.is_before-then-is_before.ensures

pub returns-else-is_before : goal.returns-else-is_before
returns-else-is_before c =
    first_decides c.args.a.now c.args.b.now c.is_before.result c.if-is_before.false c.is_before.ensures
