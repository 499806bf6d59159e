use Rattle.std.proofs.Common.{◌≡◌, ◌++◌, ◌∙◌, ap, get_or, slice_get, Some, arith}
use Rattle.std.proofs.lemmas.Option.{slice_get-get_or}
use Rattle.std.specs.Prelude.{map}
use Rattle.std.specs.List.{flat_map}
use Rattle.space3.specs.Vectors.{origin}
use Rattle.msh_text.specs.Frame.{line_of, node_row}
use Rattle.msh_text.proofs.Growth.{begins_before, on_err}
use Rattle.msh_text.proofs.FrameLines.{node_lines_more, all_nodes}
use Rattle.msh_text.proofs.frame.add_nodes.Goals as goal

pub loop-i-preserved : goal.loop-i-preserved
loop-i-preserved c =
    let number : slice_get c.args.numbers.now c.loop-i.i ≡ Some (get_or c.args.numbers.now c.loop-i.i 0) = slice_get-get_or c.args.numbers.now c.loop-i.i 0 (omega (arith, c.requires.placed, c.loop-i-test.true)) in
    node_lines_more c.args.digits c.loop-i.i c.args.out.now.items c.loop-i.out.items c.add_node.new.out.items c.args.numbers.now c.args.places.now (get_or c.args.numbers.now c.loop-i.i 0) (get_or c.args.places.now c.loop-i.i origin) number (slice_get-get_or c.args.places.now c.loop-i.i origin (omega (arith, c.loop-i-test.true)))
    c.loop-i.invariant c.in_ok-add_node.ensures.added

pub returns-clause-added : goal.returns-clause-added
returns-clause-added c =
    let all = all_nodes c.loop-i.i c.args.numbers.now c.args.places.now (omega arith) in
    c.loop-i.invariant ∙ ap (λ t. c.args.out.now.items ++ flat_map line_of (map (node_row c.args.digits) t)) all

pub returns-in_err-add_node-clause-kept : goal.returns-in_err-add_node-clause-kept
returns-in_err-add_node-clause-kept c = on_err _ (begins_before _ _ _ _ c.loop-i.invariant c.in_err-add_node.ensures.kept)
