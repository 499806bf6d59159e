use Rattle.std.proofs.Common.{refl, ◌≡◌, ◌∙◌, [], ◌∷◌, map, ap, sym, ℤ, ◌*ℤ◌, w64, to_z, of_z}
use Rattle.std.proofs.lemmas.Int.{to_z-of_z}
use Rattle.nearest.proofs.Balance.{each_at_most}
use Rattle.friction_lag.specs.Friction.{blocks_of, drag_of}
use Rattle.friction_lag.specs.Lagged.{lagged_in}
use Rattle.friction_lag.proofs.Unloaded.{no_blocks}
use Rattle.friction_lag.proofs.blocks.friction_blocks.Goals as goal

pub all_blocks-requires : goal.all_blocks-requires
all_blocks-requires c = each_at_most c.args.c.now.signed c.args.c.now.contact.balanced

pub returns : goal.returns
returns c =
    let friction : to_z w64 (of_z w64 c.args.friction) ≡ c.args.friction = to_z-of_z w64 c.args.friction c.ranges.friction in
    let slip : to_z w64 (of_z w64 c.args.slip) ≡ c.args.slip = to_z-of_z w64 c.args.slip c.ranges.slip in
    let drag = c.drag_of-drag.ensures ∙ (λ t. drag_of (lagged_in c.args.c.now) (friction t) (slip t) (c.slide_of.ensures t)) in
    c.all_blocks.ensures ∙ ap (λ z. map (blocks_of z c.args.c.now.signed) (0 ∷ 1 ∷ 2 ∷ 3 ∷ [])) drag

pub returns-then-is_unloaded : goal.returns-then-is_unloaded
returns-then-is_unloaded c =
    let nothing = ap (λ (f : ℤ). f *ℤ c.args.c.now.force) (sym (to_z-of_z w64 c.args.friction c.ranges.friction)) ∙ c.if-is_unloaded.ensures.0 refl in
    sym (no_blocks (lagged_in c.args.c.now) c.args.friction c.args.slip c.args.x.now nothing)
