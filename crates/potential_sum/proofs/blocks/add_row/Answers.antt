use Rattle.std.proofs.Common.{ℕ, refl, subst, arith}
use Rattle.std.specs.Prelude.{◌+◌, slice_index}
use Rattle.potential_sum.specs.Calls.Stiffness.{HaveMore, at_pair, block_at, in_row}
use Rattle.potential_sum.proofs.Stiffness.{in_row_more, more_again, more_as, nothing_more, one_more}
use Rattle.potential_sum.proofs.blocks.add_row.Goals as goal

pub loop-j-init : goal.loop-j-init
loop-j-init c = nothing_more c.args.sums.now

pub loop-j-preserved : goal.loop-j-preserved
loop-j-preserved c =
    let i = c.args.i in
    let j = c.loop-j.j in
    let node = slice_index c.args.nodes.now in
    let block = block_at c.args.blocks.now in
    let next = one_more c.loop-j.sums c.add.new.self i (node j) (block j) c.in_ok-add.ensures.fixed c.in_ok-add.ensures.nodes c.in_ok-add.ensures.table c.in_ok-add.ensures.count in
    more_as c.args.sums.now c.add.new.self _ (in_row i node block (j + 1)) (j + 1) (j + 1)
    (more_again c.args.sums.now c.loop-j.sums c.add.new.self (in_row i node block j) (at_pair i (node j) (block j)) j 1 c.loop-j.invariant next)
    (in_row_more i node block j) refl

pub returns : goal.returns
returns c = subst (λ (count : ℕ). HaveMore (in_row c.args.i (slice_index c.args.nodes.now) (block_at c.args.blocks.now) count) count c.args.sums.now c.loop-j.sums) (omega (arith, c.loop-j-test.false, c.loop-j.auto.j-end)) c.loop-j.invariant
