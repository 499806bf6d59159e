use Rattle.std.proofs.Common.{refl, ap}
use Rattle.boundary.specs.declared.pairs.Pair.{Pair}
use Rattle.boundary.specs.declared.pairs.PairKind.TheVariants as kinds
use Rattle.potential_sum.specs.Calls.Barriers.{barrier_at, parts_in}
use Rattle.potential_sum.specs.Calls.Stiffness.{stiffness_of_one}
use Rattle.potential_sum.specs.Contributions.{Contribution, barrier_contribution}
use Rattle.potential_sum.proofs.HeldParts.{held_pair}
use Rattle.potential_sum.proofs.Stiffness.{all_parts, more_as, nothing_more, part_more}
use Rattle.potential_sum.proofs.matrix.add_barrier_blocks.Goals as goal

pub loop-pair-init : goal.loop-pair-init
loop-pair-init c = nothing_more c.args.sums.now

pub add_pair_blocks-requires-clause-close : goal.add_pair_blocks-requires-clause-close
add_pair_blocks-requires-clause-close c = held_pair c.args.setup.now c.args.x.now c.args.pairs.now c.parts_of-parts.result c.loop-pair.pair-index _ c.requires.close c.loop-pair-test.true c.parts_of-parts.ensures

pub loop-pair-preserved : goal.loop-pair-preserved
loop-pair-preserved c =
    let setup = c.args.setup.now in
    let f : Pair → Contribution = barrier_at setup c.args.x.now in
    let none : Pair = record { kind = kinds.VE; a = 0; b = 0 } in
    let here : Contribution = barrier_contribution setup.numbers c.args.x.now (parts_in c.parts_of-parts.result) in
    part_more f c.args.pairs.now c.loop-pair.pair-index none c.args.sums.now c.loop-pair.sums c.add_pair_blocks.new.sums c.loop-pair-test.true c.loop-pair.invariant
    (more_as c.loop-pair.sums c.add_pair_blocks.new.sums (stiffness_of_one here) _ 16 16 c.in_ok-add_pair_blocks.ensures (ap (λ ps. stiffness_of_one (barrier_contribution setup.numbers c.args.x.now ps)) c.parts_of-parts.ensures) refl)

pub returns : goal.returns
returns c = all_parts (barrier_at c.args.setup.now c.args.x.now) c.args.pairs.now c.loop-pair.pair-index c.args.sums.now c.loop-pair.sums c.loop-pair.auto.pair-index-end c.loop-pair-test.false c.loop-pair.invariant
