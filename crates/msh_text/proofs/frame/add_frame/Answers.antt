use Rattle.std.proofs.Common.{◌≡◌, ◌++◌, length, rules}
use Rattle.std.specs.Prelude.{decimal, map}
use Rattle.std.specs.List.{flat_map, zip}
use Rattle.msh_text.specs.Frame.{line_of, node_row, tet_row}
use Rattle.msh_text.proofs.Growth.{begins_before, begins_itself, on_err}
use Rattle.msh_text.proofs.FrameLines.{frame_whole}
use Rattle.msh_text.proofs.frame.add_frame.Goals as goal

pub returns-clause-added : goal.returns-clause-added
returns-clause-added c =
    let mesh = c.args.mesh.now in
    let places = c.args.places.now in
    let nodes : c.number_text.new.out.items ≡ c.add.new.out.items ++ decimal (length mesh.numbers) = search rules in
    let lines : c.add_nodes.new.out.items ≡ c.add-2.new.out.items ++ flat_map line_of (map (node_row c.args.digits) (zip mesh.numbers places)) = search rules in
    let tets : c.number_text-2.new.out.items ≡ c.add-3.new.out.items ++ decimal (length mesh.tets) = search rules in
    let more_lines : c.add_tets.new.out.items ≡ c.add-4.new.out.items ++ flat_map line_of (map (tet_row mesh.numbers) mesh.tets) = search rules in
    frame_whole mesh places c.args.digits c.args.out.now.items c.add.new.out.items c.number_text.new.out.items c.add-2.new.out.items c.add_nodes.new.out.items c.add-3.new.out.items c.number_text-2.new.out.items
    c.add-4.new.out.items c.add_tets.new.out.items c.add-5.new.out.items
    c.in_ok-add.ensures.added nodes c.in_ok-add-2.ensures.added lines c.in_ok-add-3.ensures.added tets c.in_ok-add-4.ensures.added more_lines c.in_ok-add-5.ensures.added

pub returns-in_err-add-clause-kept : goal.returns-in_err-add-clause-kept
returns-in_err-add-clause-kept c = on_err _ (begins_itself _ _ c.in_err-add.ensures.unchanged)

pub returns-in_err-number_text-clause-kept : goal.returns-in_err-number_text-clause-kept
returns-in_err-number_text-clause-kept c = on_err _ (begins_before _ _ _ _ c.in_ok-add.ensures.added (begins_itself _ _ c.in_err-number_text.ensures.unchanged))

pub returns-in_err-add-2-clause-kept : goal.returns-in_err-add-2-clause-kept
returns-in_err-add-2-clause-kept c = on_err _ (begins_before _ _ _ _ c.in_ok-add.ensures.added (begins_before _ _ _ _ c.in_ok-number_text.ensures.added (begins_itself _ _ c.in_err-add-2.ensures.unchanged)))

pub returns-in_err-add_nodes-clause-kept : goal.returns-in_err-add_nodes-clause-kept
returns-in_err-add_nodes-clause-kept c = on_err _ (begins_before _ _ _ _ c.in_ok-add.ensures.added (begins_before _ _ _ _ c.in_ok-number_text.ensures.added (begins_before _ _ _ _ c.in_ok-add-2.ensures.added (c.in_err-add_nodes.ensures.kept))))

pub returns-in_err-add-3-clause-kept : goal.returns-in_err-add-3-clause-kept
returns-in_err-add-3-clause-kept c = on_err _ (begins_before _ _ _ _ c.in_ok-add.ensures.added (begins_before _ _ _ _ c.in_ok-number_text.ensures.added (begins_before _ _ _ _ c.in_ok-add-2.ensures.added (begins_before _ _ _ _ c.in_ok-add_nodes.ensures.added (begins_itself _ _ c.in_err-add-3.ensures.unchanged)))))

pub returns-in_err-number_text-2-clause-kept : goal.returns-in_err-number_text-2-clause-kept
returns-in_err-number_text-2-clause-kept c = on_err _ (begins_before _ _ _ _ c.in_ok-add.ensures.added (begins_before _ _ _ _ c.in_ok-number_text.ensures.added (begins_before _ _ _ _ c.in_ok-add-2.ensures.added (begins_before _ _ _ _ c.in_ok-add_nodes.ensures.added (begins_before _ _ _ _ c.in_ok-add-3.ensures.added (begins_itself _ _ c.in_err-number_text-2.ensures.unchanged))))))

pub returns-in_err-add-4-clause-kept : goal.returns-in_err-add-4-clause-kept
returns-in_err-add-4-clause-kept c = on_err _ (begins_before _ _ _ _ c.in_ok-add.ensures.added (begins_before _ _ _ _ c.in_ok-number_text.ensures.added (begins_before _ _ _ _ c.in_ok-add-2.ensures.added (begins_before _ _ _ _ c.in_ok-add_nodes.ensures.added (begins_before _ _ _ _ c.in_ok-add-3.ensures.added (begins_before _ _ _ _ c.in_ok-number_text-2.ensures.added (begins_itself _ _ c.in_err-add-4.ensures.unchanged)))))))

pub returns-in_err-add_tets-clause-kept : goal.returns-in_err-add_tets-clause-kept
returns-in_err-add_tets-clause-kept c = on_err _ (begins_before _ _ _ _ c.in_ok-add.ensures.added (begins_before _ _ _ _ c.in_ok-number_text.ensures.added (begins_before _ _ _ _ c.in_ok-add-2.ensures.added (begins_before _ _ _ _ c.in_ok-add_nodes.ensures.added (begins_before _ _ _ _ c.in_ok-add-3.ensures.added (begins_before _ _ _ _ c.in_ok-number_text-2.ensures.added (begins_before _ _ _ _ c.in_ok-add-4.ensures.added (c.in_err-add_tets.ensures.kept))))))))

pub returns-in_err-add-5-clause-kept : goal.returns-in_err-add-5-clause-kept
returns-in_err-add-5-clause-kept c = on_err _ (begins_before _ _ _ _ c.in_ok-add.ensures.added (begins_before _ _ _ _ c.in_ok-number_text.ensures.added (begins_before _ _ _ _ c.in_ok-add-2.ensures.added (begins_before _ _ _ _ c.in_ok-add_nodes.ensures.added (begins_before _ _ _ _ c.in_ok-add-3.ensures.added (begins_before _ _ _ _ c.in_ok-number_text-2.ensures.added (begins_before _ _ _ _ c.in_ok-add-4.ensures.added (begins_before _ _ _ _ c.in_ok-add_tets.ensures.added (begins_itself _ _ c.in_err-add-5.ensures.unchanged)))))))))
