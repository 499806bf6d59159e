use Rattle.std.proofs.Common.{◌≡◌, ◌∙◌, pos, refl, ap, get_or, rules, to_z, of_z}
use Rattle.std.specs.Int.{w128}
use Rattle.std.specs.Prelude.{◌+◌}
use Rattle.vec_q.specs.Rows.{matrix_of}
use Rattle.block_rows.specs.Stored.{table_of}
use Rattle.block_rows.specs.Tables.{free_table, with_block}
use Rattle.inertia_term.specs.Inertia.{inertia_block}
use Rattle.potential_sum.specs.Calls.Stiffness.{at_pair, inertia_table}
use Rattle.potential_sum.proofs.Stiffness.{inertia_more, more_again, more_as, nothing_more, one_more}
use Rattle.potential_sum.proofs.matrix.add_inertia_blocks.Goals as goal

pub loop-node-init : goal.loop-node-init
loop-node-init c = nothing_more c.args.sums.now

pub loop-node-preserved : goal.loop-node-preserved
loop-node-preserved c =
    let k = c.loop-node.node in
    let same : to_z w128 (of_z w128 (get_or c.args.masses.now k (pos 0))) ≡ get_or c.args.masses.now k (pos 0) = search rules in
    let block = inertia_block (get_or c.args.masses.now k (pos 0)) in
    let next = one_more c.loop-node.sums c.add.new.self k k block c.in_ok-add.ensures.fixed c.in_ok-add.ensures.nodes (c.in_ok-add.ensures.table ∙ ap (λ m. free_table c.loop-node.sums.fixed (with_block k k m (table_of c.loop-node.sums.rows))) (ap matrix_of c.inertia_block-block.ensures ∙ ap inertia_block same)) c.in_ok-add.ensures.count in
    more_as c.args.sums.now c.add.new.self _ (inertia_table c.args.masses.now (k + 1)) (k + 1) (k + 1)
    (more_again c.args.sums.now c.loop-node.sums c.add.new.self (inertia_table c.args.masses.now k) (at_pair k k block) k 1 c.loop-node.invariant next)
    (inertia_more c.args.masses.now k) refl
