use Rattle.std.proofs.Common.{rules, ◌≡◌, ◌++◌}
use Rattle.std.specs.Prelude.{codes}
use Rattle.std.specs.Fmt.{signed_decimal}
use Rattle.report_text.proofs.Joins.{node_written}
use Rattle.report_text.proofs.traces.add_node.Goals as goal

pub returns : goal.returns
returns c =
    let x : c.add_field.new.text.items ≡ c.number_text.new.out.items ++ (codes " " ++ signed_decimal c.args.d.x) = search rules in
    let y : c.add_field-2.new.text.items ≡ c.add_field.new.text.items ++ (codes " " ++ signed_decimal c.args.d.y) = search rules in
    let z : c.add_field-3.new.text.items ≡ c.add_field-2.new.text.items ++ (codes " " ++ signed_decimal c.args.d.z) = search rules in
    node_written _ c.number_text.new.out.items c.add_field.new.text.items c.add_field-2.new.text.items c.add_field-3.new.text.items _ c.args.number c.args.d
    c.in_ok-number_text.ensures.added x y z c.in_ok-extend_from_slice.ensures.items
