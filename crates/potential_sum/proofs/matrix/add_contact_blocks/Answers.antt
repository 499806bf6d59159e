use Rattle.std.proofs.Common.{◌∙◌, Bool, List, refl, ap, sym}
use Rattle.std.proofs.lemmas.Result.{IfOk-weaker}
use Rattle.broad_grid.specs.Held.{are_held}
use Rattle.friction_lag.specs.Lagged.{lagged_in}
use Rattle.potential_sum.specs.Bodies.{corners_at}
use Rattle.potential_sum.specs.Calls.Friction.{friction_at}
use Rattle.potential_sum.proofs.SmallBlocks.{friction-blocks-small}
use Rattle.potential_sum.proofs.Stiffness.{fixed_added, part_added, part_small}
use Rattle.potential_sum.proofs.matrix.add_contact_blocks.Goals as goal

pub returns-then-are_held : goal.returns-then-are_held
returns-then-are_held c =
    fixed_added (friction_at c.args.numbers.now c.args.x.now c.args.contact.now) c.args.sums.now
    (ap (λ (fixed : List Bool). are_held fixed c.args.contact.now.nodes) (sym c.fixed.ensures.value) ∙ sym c.are_held.ensures ∙ c.if-are_held.true)

pub add_blocks-requires-clause-small : goal.add_blocks-requires-clause-small
add_blocks-requires-clause-small c =
    let numbers = c.args.numbers.now in
    let contact = c.args.contact.now in
    part_small (friction_at numbers c.args.x.now contact) c.blocks_of.result c.blocks_of.ensures
    (friction-blocks-small (lagged_in contact) numbers.friction numbers.slip (corners_at c.args.x.now contact.nodes))

pub returns : goal.returns
returns c =
    let contact = c.args.contact.now in
    IfOk-weaker c.add_blocks.result _ _
    (λ _ added. part_added (friction_at c.args.numbers.now c.args.x.now contact) c.args.sums.now c.add_blocks.new.sums contact.nodes c.blocks_of.result c.requires.slide.four refl c.blocks_of.ensures added)
    c.add_blocks.ensures
