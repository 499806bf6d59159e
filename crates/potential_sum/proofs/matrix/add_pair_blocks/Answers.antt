use Rattle.std.proofs.Common.{◌<◌, length, sym, subst}
use Rattle.std.specs.Prelude.{All}
use Rattle.std.proofs.lemmas.List.{take-append-drop}
use Rattle.std.proofs.lemmas.Result.{IfOk-weaker}
use Rattle.potential_sum.specs.Calls.Barriers.{parts_in}
use Rattle.potential_sum.specs.Contacts.{near_of_parts, points_of_parts}
use Rattle.potential_sum.specs.Contributions.{barrier_contribution}
use Rattle.potential_sum.proofs.HeldParts.{held_four, held_there}
use Rattle.potential_sum.proofs.SmallBlocks.{barrier-blocks-small}
use Rattle.potential_sum.proofs.Stiffness.{none_added, part_added, part_small}
use Rattle.potential_sum.proofs.matrix.add_pair_blocks.Goals as goal

pub add_blocks-requires-clause-there : goal.add_blocks-requires-clause-there
add_blocks-requires-clause-there c =
    subst (λ n. All (λ node. node < n) c.args.parts.now.nodes) (sym c.requires.each) (held_there c.args.x.now c.args.parts.now c.requires.close)

pub add_blocks-requires-clause-small : goal.add_blocks-requires-clause-small
add_blocks-requires-clause-small c =
    let numbers = c.args.numbers.now in
    let x = c.args.x.now in
    let parts = parts_in c.args.parts.now in
    part_small (barrier_contribution numbers x parts) _ c.in-Some.ensures.some
    (barrier-blocks-small numbers.kappa numbers.dhat (near_of_parts x parts) (length parts.left) (points_of_parts x parts))

pub returns-in-Some : goal.returns-in-Some
returns-in-Some c =
    let x = c.args.x.now in
    let parts = c.args.parts.now in
    let part = barrier_contribution c.args.numbers.now x (parts_in parts) in
    IfOk-weaker c.add_blocks.result _ _
    (λ _ added. part_added part c.args.sums.now c.add_blocks.new.sums parts.nodes _ (held_four x parts c.requires.close) (sym (take-append-drop parts.split parts.nodes)) c.in-Some.ensures.some added)
    c.add_blocks.ensures

pub returns-in-None : goal.returns-in-None
returns-in-None c = none_added (barrier_contribution c.args.numbers.now c.args.x.now (parts_in c.args.parts.now)) c.args.sums.now c.in-None.ensures.none
