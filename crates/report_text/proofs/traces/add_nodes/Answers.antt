use Rattle.std.proofs.Common.{rules, ◌≡◌, false, length, length-append, sym}
use Rattle.std.proofs.lemmas.Slice.Zip.{zip_turn, zip_end}
use Rattle.space3.specs.Vectors.{origin}
use Rattle.report_text.specs.Traces.{is_zero}
use Rattle.report_text.proofs.NodeLines.{moving_more, still_more, all_lines}
use Rattle.report_text.proofs.traces.add_nodes.Goals as goal

pub loop-number-preserved-in-Continue-1 : goal.loop-number-preserved-in-Continue-1
loop-number-preserved-in-Continue-1 c =
    let t = zip_turn c.args.numbers.now c.args.direction.now c.loop-number.yielded c.into_iter-number-iterator.result c.loop-number.number-iterator c.next.new.self _ (search rules) (search rules) c.loop-number.yielded_by _ c.in-Some.is c.next.ensures.steps in
    let moving : is_zero c.in-Some.d.now ≡ false = search rules in
    moving_more c.args.numbers.now c.args.direction.now (length c.loop-number.yielded) _ _ _ _ _ _
    (record { in_numbers = t.0; in_direction = t.1; number_is = t.2 0; direction_is = t.3 origin })
    (length-append c.loop-number.yielded _) moving c.loop-number.invariant c.in_ok-add_node.ensures

pub loop-number-preserved : goal.loop-number-preserved
loop-number-preserved c =
    let t = zip_turn c.args.numbers.now c.args.direction.now c.loop-number.yielded c.into_iter-number-iterator.result c.loop-number.number-iterator c.next.new.self _ (search rules) (search rules) c.loop-number.yielded_by _ c.in-Some.is c.next.ensures.steps in
    still_more c.args.numbers.now c.args.direction.now (length c.loop-number.yielded) _ _ _ _ _
    (record { in_numbers = t.0; in_direction = t.1; number_is = t.2 0; direction_is = t.3 origin })
    (length-append c.loop-number.yielded _) (sym c.if-not-is_zero.ensures) c.loop-number.invariant

pub returns : goal.returns
returns c =
    let end = zip_end c.args.numbers.now c.args.direction.now c.loop-number.yielded c.into_iter-number-iterator.result c.loop-number.number-iterator c.next.new.self _ (search rules) (search rules) c.loop-number.yielded_by c.in-None.is c.next.ensures.steps in
    all_lines c.args.numbers.now c.args.direction.now (length c.loop-number.yielded) _ _ end c.loop-number.invariant
