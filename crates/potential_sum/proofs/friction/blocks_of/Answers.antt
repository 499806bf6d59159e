use Rattle.std.proofs.Common.{◌≡◌, ◌∙◌, w64, to_z, of_z, rules}
use Rattle.friction_lag.specs.Friction.{friction_blocks}
use Rattle.friction_lag.specs.Lagged.{lagged_in}
use Rattle.potential_sum.proofs.friction.blocks_of.Goals as goal

pub returns : goal.returns
returns c =
    let numbers = c.args.numbers.now in
    let friction : to_z w64 (of_z w64 numbers.friction) ≡ numbers.friction = search rules in
    let slip : to_z w64 (of_z w64 numbers.slip) ≡ numbers.slip = search rules in
    c.friction_blocks.ensures ∙ (λ t. friction_blocks (lagged_in c.args.contact.now) (friction t) (slip t) (c.corners_at-corners.ensures.value t))
