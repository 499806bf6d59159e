use Rattle.std.proofs.Common.{◌≡◌, ◌∷◌, ◌++◌, rules}
use Rattle.dec_text.specs.GridText.{grid_decimal}
use Rattle.msh_text.proofs.Growth.{begins_before, begins_itself, on_err}
use Rattle.msh_text.proofs.FrameLines.{node_line}
use Rattle.msh_text.proofs.frame.add_node.Goals as goal

pub returns-clause-added : goal.returns-clause-added
returns-clause-added c =
    let o = c.args.out.now.items in
    let x : c.add_coordinate.new.out.items ≡ c.number_text.new.out.items ++ 32 ∷ grid_decimal c.args.place.x c.args.digits = search rules in
    let y : c.add_coordinate-2.new.out.items ≡ c.add_coordinate.new.out.items ++ 32 ∷ grid_decimal c.args.place.y c.args.digits = search rules in
    let z : c.add_coordinate-3.new.out.items ≡ c.add_coordinate-2.new.out.items ++ 32 ∷ grid_decimal c.args.place.z c.args.digits = search rules in
    node_line o c.number_text.new.out.items c.add_coordinate.new.out.items c.add_coordinate-2.new.out.items c.add_coordinate-3.new.out.items c.add.new.out.items c.args.digits c.args.number c.args.place
    c.in_ok-number_text.ensures.added x y z c.in_ok-add.ensures.added

pub returns-in_err-number_text-clause-kept : goal.returns-in_err-number_text-clause-kept
returns-in_err-number_text-clause-kept c = on_err _ (begins_itself _ _ c.in_err-number_text.ensures.unchanged)

pub returns-in_err-add_coordinate-clause-kept : goal.returns-in_err-add_coordinate-clause-kept
returns-in_err-add_coordinate-clause-kept c = on_err _ (begins_before _ _ _ _ c.in_ok-number_text.ensures.added (c.in_err-add_coordinate.ensures.kept))

pub returns-in_err-add_coordinate-2-clause-kept : goal.returns-in_err-add_coordinate-2-clause-kept
returns-in_err-add_coordinate-2-clause-kept c = on_err _ (begins_before _ _ _ _ c.in_ok-number_text.ensures.added (begins_before _ _ _ _ c.in_ok-add_coordinate.ensures.added (c.in_err-add_coordinate-2.ensures.kept)))

pub returns-in_err-add_coordinate-3-clause-kept : goal.returns-in_err-add_coordinate-3-clause-kept
returns-in_err-add_coordinate-3-clause-kept c = on_err _ (begins_before _ _ _ _ c.in_ok-number_text.ensures.added (begins_before _ _ _ _ c.in_ok-add_coordinate.ensures.added (begins_before _ _ _ _ c.in_ok-add_coordinate-2.ensures.added (c.in_err-add_coordinate-3.ensures.kept))))

pub returns-in_err-add-clause-kept : goal.returns-in_err-add-clause-kept
returns-in_err-add-clause-kept c = on_err _ (begins_before _ _ _ _ c.in_ok-number_text.ensures.added (begins_before _ _ _ _ c.in_ok-add_coordinate.ensures.added (begins_before _ _ _ _ c.in_ok-add_coordinate-2.ensures.added (begins_before _ _ _ _ c.in_ok-add_coordinate-3.ensures.added (begins_itself _ _ c.in_err-add.ensures.unchanged)))))
