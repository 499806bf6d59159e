use Rattle.std.proofs.Common.{◌≡◌, ◌∷◌, ◌++◌, length, rules}
use Rattle.std.specs.Prelude.{decimal, map}
use Rattle.std.specs.Fmt.{signed_decimal}
use Rattle.msh_text.specs.Frame.{spaced}
use Rattle.msh_text.proofs.Growth.{begins_before, begins_itself, on_err}
use Rattle.msh_text.proofs.FrameLines.{tet_line}
use Rattle.msh_text.proofs.frame.add_tet.Goals as goal

pub returns-clause-added : goal.returns-clause-added
returns-clause-added c =
    let o = c.args.out.now.items in
    let count : c.add_field.new.out.items ≡ c.add.new.out.items ++ 32 ∷ decimal (length c.args.tet.now.tags) = search rules in
    let tags : c.add_tags.new.out.items ≡ c.add_field.new.out.items ++ spaced (map signed_decimal c.args.tet.now.tags) = search rules in
    tet_line o c.number_text.new.out.items c.add.new.out.items c.add_field.new.out.items c.add_tags.new.out.items c.add_node_numbers.new.out.items c.add-2.new.out.items c.args.numbers.now c.args.tet.now
    c.in_ok-number_text.ensures.added c.in_ok-add.ensures.added count tags c.in_ok-add_node_numbers.ensures.added c.in_ok-add-2.ensures.added

pub returns-in_err-number_text-clause-kept : goal.returns-in_err-number_text-clause-kept
returns-in_err-number_text-clause-kept c = on_err _ (begins_itself _ _ c.in_err-number_text.ensures.unchanged)

pub returns-in_err-add-clause-kept : goal.returns-in_err-add-clause-kept
returns-in_err-add-clause-kept c = on_err _ (begins_before _ _ _ _ c.in_ok-number_text.ensures.added (begins_itself _ _ c.in_err-add.ensures.unchanged))

pub returns-in_err-add_field-clause-kept : goal.returns-in_err-add_field-clause-kept
returns-in_err-add_field-clause-kept c = on_err _ (begins_before _ _ _ _ c.in_ok-number_text.ensures.added (begins_before _ _ _ _ c.in_ok-add.ensures.added (c.in_err-add_field.ensures.kept)))

pub returns-in_err-add_tags-clause-kept : goal.returns-in_err-add_tags-clause-kept
returns-in_err-add_tags-clause-kept c = on_err _ (begins_before _ _ _ _ c.in_ok-number_text.ensures.added (begins_before _ _ _ _ c.in_ok-add.ensures.added (begins_before _ _ _ _ c.in_ok-add_field.ensures.added (c.in_err-add_tags.ensures.kept))))

pub returns-in_err-add_node_numbers-clause-kept : goal.returns-in_err-add_node_numbers-clause-kept
returns-in_err-add_node_numbers-clause-kept c = on_err _ (begins_before _ _ _ _ c.in_ok-number_text.ensures.added (begins_before _ _ _ _ c.in_ok-add.ensures.added (begins_before _ _ _ _ c.in_ok-add_field.ensures.added (begins_before _ _ _ _ c.in_ok-add_tags.ensures.added (c.in_err-add_node_numbers.ensures.kept)))))

pub returns-in_err-add-2-clause-kept : goal.returns-in_err-add-2-clause-kept
returns-in_err-add-2-clause-kept c = on_err _ (begins_before _ _ _ _ c.in_ok-number_text.ensures.added (begins_before _ _ _ _ c.in_ok-add.ensures.added (begins_before _ _ _ _ c.in_ok-add_field.ensures.added (begins_before _ _ _ _ c.in_ok-add_tags.ensures.added (begins_before _ _ _ _ c.in_ok-add_node_numbers.ensures.added (begins_itself _ _ c.in_err-add-2.ensures.unchanged))))))
