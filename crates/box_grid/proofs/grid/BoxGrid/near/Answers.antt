use Rattle.std.proofs.Common.{◌∙◌, [], List, subst}
use Rattle.std.proofs.lemmas.Result.{IfOk-weaker}
use Rattle.space3.specs.declared.boxes.BoundingBox.{BoundingBox}
use Rattle.box_grid.specs.Near.{HasJust, near_positions}
use Rattle.box_grid.specs.Calls.Cells.{cells_over}
use Rattle.box_grid.proofs.NearPositions.{all_are_near, keys_as, levels_are_near, query_of}
use Rattle.box_grid.proofs.grid.BoxGrid.near.Goals as goal

pub returns-then-cell_count-len-clause-found : goal.returns-then-cell_count-len-clause-found
returns-then-cell_count-len-clause-found c =
    IfOk-weaker c.append_all_touching.result (λ _. _) (λ _. _)
    (λ _ is. all_are_near c.args.reach c.args.around.now c.widened.result c.args.from c.deref.result.now c.args.self.now c.clear.new.self.items c.append_all_touching.new.found.items
    c.widened.ensures.value (c.deref.ensures.value ∙ c.self.view_is) c.clear.ensures.items is)
    c.append_all_touching.ensures.found

pub returns-clause-found : goal.returns-clause-found
returns-clause-found c =
    let g = c.self.inside in
    let query = query_of c.widened.result c.args.from in
    let some = c.append_touching_over.new.found.items in
    let found = c.append_touching_of_level.new.found.items in
    subst (λ (boxes : List BoundingBox). HasJust (near_positions c.args.reach c.args.around.now c.args.from boxes) found) c.self.view_is
    (levels_are_near c.args.reach c.args.around.now c.widened.result c.args.from g.side g.great_side g.boxes.items g.common g.great some found c.self.invariant c.widened.ensures.by_box c.widened.ensures.value
    (keys_as query g.common.entries c.cells_over-cells.result (cells_over g.side c.widened.result) c.clear.new.self.items [] some c.cells_over-cells.ensures.value c.clear.ensures.items c.in_ok-common.ensures.keys)
    c.in_ok-great.ensures.keys)
