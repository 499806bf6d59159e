use Rattle.std.proofs.Common.{◌∙◌, ap, sym}
use Rattle.std.proofs.lemmas.Option.{IfSome_then}
use Rattle.barrier_term.specs.Blocks.{barrier_block, barrier_blocks}
use Rattle.potential_sum.specs.Calls.Barriers.{barrier_of, parts_in}
use Rattle.potential_sum.specs.Calls.Stiffness.{sixteen_of}
use Rattle.potential_sum.specs.Contributions.{barrier_contribution}
use Rattle.potential_sum.proofs.HeldParts.{kept_dhat, kept_stiffness}
use Rattle.potential_sum.proofs.Stiffness.{no_blocks_as, none_then}
use Rattle.potential_sum.proofs.barriers.TwoParts.blocks.Goals as goal

pub returns-clause-some : goal.returns-clause-some
returns-clause-some c =
    let numbers = c.args.numbers.now in
    let found = c.nearest.result in
    let split = c.args.self.now.split in
    IfSome_then c.barrier_blocks.result c.barrier_blocks.ensures.some
    (λ blocks e. e ∙ (λ k. barrier_blocks (kept_stiffness numbers c.requires.numbers k) (kept_dhat numbers c.requires.numbers k) found.near split found.points) ∙ ap sixteen_of (c.nearest.ensures.barrier numbers))

pub returns-clause-none : goal.returns-clause-none
returns-clause-none c =
    let numbers = c.args.numbers.now in
    let found = c.nearest.result in
    let parts = c.args.self.now in
    none_then c.barrier_blocks.result _ _
    (λ none. no_blocks_as (barrier_of numbers parts.nodes parts.split found.points found.near) (barrier_contribution numbers c.args.x.now (parts_in parts)) (c.nearest.ensures.barrier numbers)
    (record { none = λ i j. (λ k. barrier_block (sym (kept_stiffness numbers c.requires.numbers) k) (sym (kept_dhat numbers c.requires.numbers) k) found.near parts.split found.points i j) ∙ none i j }))
    c.barrier_blocks.ensures.none
