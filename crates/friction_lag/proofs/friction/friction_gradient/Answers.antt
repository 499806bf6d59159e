use Rattle.std.proofs.Common.{refl, ◌∙◌, map, subst, sym, ap, ℤ, ◌*ℤ◌, w64, arith}
use Rattle.std.proofs.lemmas.Int.{to_z-of_z}
use Rattle.nearest.specs.Cancelling.{AlmostCancel}
use Rattle.nearest.proofs.Balance.{each_at_most}
use Rattle.friction_lag.specs.Friction.{drag_of, pull_at}
use Rattle.friction_lag.specs.Lagged.{lagged_in}
use Rattle.friction_lag.proofs.Unloaded.{no_pulls, nothing_cancels}
use Rattle.friction_lag.proofs.friction.friction_gradient.Goals as goal

pub pulls-requires-clause-each : goal.pulls-requires-clause-each
pulls-requires-clause-each c = each_at_most c.args.c.now.signed c.args.c.now.contact.balanced

pub returns-clause-cancelling : goal.returns-clause-cancelling
returns-clause-cancelling c =
    let drag = c.drag_of-drag.ensures ∙ (λ i. drag_of (lagged_in c.args.c.now) (to_z-of_z w64 c.args.friction c.ranges.friction i) (to_z-of_z w64 c.args.slip c.ranges.slip i) (c.slide_of-slide.ensures i)) in
    subst AlmostCancel (λ i. map (pull_at (drag i) (c.slide_of-slide.ensures i)) c.args.c.now.signed) c.pulls.ensures.cancelling

pub returns-then-is_unloaded-clause-value : goal.returns-then-is_unloaded-clause-value
returns-then-is_unloaded-clause-value c =
    let nothing = ap (λ (f : ℤ). f *ℤ c.args.c.now.force) (sym (to_z-of_z w64 c.args.friction c.ranges.friction)) ∙ c.if-is_unloaded.ensures.0 refl in
    sym (no_pulls (lagged_in c.args.c.now) c.args.friction c.args.slip c.args.x.now nothing (omega arith))

pub returns-then-is_unloaded-clause-cancelling : goal.returns-then-is_unloaded-clause-cancelling
returns-then-is_unloaded-clause-cancelling c =
    let nothing = ap (λ (f : ℤ). f *ℤ c.args.c.now.force) (sym (to_z-of_z w64 c.args.friction c.ranges.friction)) ∙ c.if-is_unloaded.ensures.0 refl in
    nothing_cancels (lagged_in c.args.c.now) c.args.friction c.args.slip c.args.x.now nothing (omega arith) c.args.c.now.contact.balanced
