use Rattle.std.proofs.Common.{◌∷◌, [], subst}
use Rattle.std.specs.Int.{w64}
use Rattle.std.proofs.lemmas.Int.{to_z-of_z}
use Rattle.dec_text.specs.AddsText.{AddsText}
use Rattle.dec_text.specs.GridText.{grid_decimal}
use Rattle.msh_text.proofs.Growth.{begins_itself, begins_adds, added_adds, on_err}
use Rattle.msh_text.proofs.frame.add_coordinate.Goals as goal

pub returns-in_err-add-clause-kept : goal.returns-in_err-add-clause-kept
returns-in_err-add-clause-kept c = on_err _ (begins_itself _ _ c.in_err-add.ensures.unchanged)

pub returns-clause-kept : goal.returns-clause-kept
returns-clause-kept c = begins_adds c.grid_text.result _ _ _ _ (grid_decimal c.args.x c.args.digits) c.in_ok-add.ensures.added (subst (λ z. AddsText (grid_decimal z c.args.digits) c.add.new.out.items c.grid_text.result c.grid_text.new.out.items) (to_z-of_z w64 c.args.x c.ranges.x) c.grid_text.ensures.added)

pub returns-clause-added : goal.returns-clause-added
returns-clause-added c = added_adds c.grid_text.result _ _ _ (32 ∷ []) (grid_decimal c.args.x c.args.digits) c.in_ok-add.ensures.added (subst (λ z. AddsText (grid_decimal z c.args.digits) c.add.new.out.items c.grid_text.result c.grid_text.new.out.items) (to_z-of_z w64 c.args.x c.ranges.x) c.grid_text.ensures.added)
