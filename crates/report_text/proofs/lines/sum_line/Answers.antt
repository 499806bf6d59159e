use Rattle.std.proofs.Common.{rules, ◌≡◌, ◌++◌}
use Rattle.std.specs.Prelude.{codes}
use Rattle.std.specs.Fmt.{signed_decimal}
use Rattle.report_text.proofs.Joins.{sums_written}
use Rattle.report_text.proofs.lines.sum_line.Goals as goal

pub returns : goal.returns
returns c =
    let x : c.add_field.new.text.items ≡ c.in_ok-line.line.items ++ (codes " " ++ signed_decimal c.args.x) = search rules in
    let y : c.add_field-2.new.text.items ≡ c.add_field.new.text.items ++ (codes " " ++ signed_decimal c.args.y) = search rules in
    let z : c.add_field-3.new.text.items ≡ c.add_field-2.new.text.items ++ (codes " " ++ signed_decimal c.args.z) = search rules in
    sums_written c.in_ok-line.line.items c.add_field.new.text.items c.add_field-2.new.text.items c.add_field-3.new.text.items _ c.args.x c.args.y c.args.z
    c.in_ok-line.ensures.items x y z c.in_ok-extend_from_slice.ensures.items
