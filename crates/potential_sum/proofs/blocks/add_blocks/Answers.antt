use Rattle.std.proofs.Common.{◌≡◌, ap, refl, sym, rules, arith}
use Rattle.std.specs.Prelude.{◌+◌, ◌*◌, slice_index, length}
use Rattle.potential_sum.specs.Calls.Stiffness.{blocks_in, in_row, in_rows}
use Rattle.potential_sum.proofs.Stiffness.{in_rows_more, more_again, more_as, nothing_more}
use Rattle.potential_sum.proofs.blocks.add_blocks.Goals as goal

pub loop-i-init : goal.loop-i-init
loop-i-init c = nothing_more c.args.sums.now

pub loop-i-preserved : goal.loop-i-preserved
loop-i-preserved c =
    let i = c.loop-i.i in
    let nodes = c.args.nodes.now in
    let block = blocks_in c.args.blocks.now in
    let four : length nodes ≡ 4 = search rules in
    let new = in_row (slice_index nodes i) (slice_index nodes) (block i) in
    more_as c.args.sums.now c.add_row.new.sums _ (in_rows nodes block (i + 1)) (4 * i + 4) (4 * (i + 1))
    (more_again c.args.sums.now c.loop-i.sums c.add_row.new.sums (in_rows nodes block i) (new (length nodes)) (4 * i) 4 c.loop-i.invariant
    (more_as c.loop-i.sums c.add_row.new.sums (new 4) (new (length nodes)) 4 4 c.in_ok-add_row.ensures (ap new (sym four)) refl))
    (in_rows_more nodes block i) (omega arith)

pub returns : goal.returns
returns c =
    let i = c.loop-i.i in
    let nodes = c.args.nodes.now in
    let block = blocks_in c.args.blocks.now in
    let four : length nodes ≡ 4 = search rules in
    more_as c.args.sums.now c.loop-i.sums (in_rows nodes block i) (in_rows nodes block (length nodes)) (4 * i) 16 c.loop-i.invariant
    (ap (in_rows nodes block) (omega (arith, four, c.loop-i-test.false, c.loop-i.auto.i-end))) (omega (arith, c.loop-i-test.false, c.loop-i.auto.i-end))
