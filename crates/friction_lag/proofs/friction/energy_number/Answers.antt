use Rattle.std.proofs.Common.{refl, sym, ◌∙◌, ap, subst, pos, ℤ, ◌*ℤ◌, ◌≤ℤ◌, ◌^◌, w64}
use Rattle.std.proofs.lemmas.Int.{to_z-of_z}
use Rattle.num_q.specs.Rounding.{cut_of, floor_of}
use Rattle.whole_laws.proofs.Order.{mul_nonneg_ℤ}
use Rattle.friction_lag.specs.Contacts.{length_of}
use Rattle.friction_lag.specs.Friction.{friction_energy, slip_of, smooth_length}
use Rattle.friction_lag.specs.Lagged.{lagged_in}
use Rattle.friction_lag.proofs.Standing.{least_energy, wide_slip}
use Rattle.friction_lag.proofs.Unloaded.{no_energy}
use Rattle.friction_lag.proofs.friction.energy_number.Goals as goal

pub returns-clause-value : goal.returns-clause-value
returns-clause-value c =
    let load = c.load_of.ensures.value ∙ (λ i. to_z-of_z w64 c.args.friction c.ranges.friction i *ℤ c.args.c.now.force) in
    let y = c.length_of-y.ensures.value ∙ ap length_of c.slide_of.ensures in
    let e = c.slip_of.ensures.value ∙ ap slip_of (to_z-of_z w64 c.args.slip c.ranges.slip) in
    let length = c.smooth_length.ensures.value ∙ (λ i. smooth_length (y i) (e i)) in
    c.energy_along.ensures ∙ (λ i. cut_of 90 (floor_of (load i *ℤ length i) (pos (2 ^ 24))))

pub returns-clause-least : goal.returns-clause-least
returns-clause-least c =
    subst (λ (z : ℤ). friction_energy (lagged_in c.args.c.now) c.args.friction c.args.slip c.args.c.now.from ≤ℤ z) (sym (returns-clause-value c))
    (least_energy (lagged_in c.args.c.now) c.args.friction c.args.slip c.args.x.now (mul_nonneg_ℤ c.args.friction c.args.c.now.force c.requires.friction.low c.args.c.now.contact.pressing.low) (wide_slip c.args.slip c.requires.slip.low))

pub returns-then-is_unloaded-clause-value : goal.returns-then-is_unloaded-clause-value
returns-then-is_unloaded-clause-value c =
    let nothing = ap (λ (f : ℤ). f *ℤ c.args.c.now.force) (sym (to_z-of_z w64 c.args.friction c.ranges.friction)) ∙ c.if-is_unloaded.ensures.0 refl in
    c.of_raw.ensures ∙ sym (no_energy (lagged_in c.args.c.now) c.args.friction c.args.slip c.args.x.now nothing)

pub returns-then-is_unloaded-clause-least : goal.returns-then-is_unloaded-clause-least
returns-then-is_unloaded-clause-least c =
    subst (λ (z : ℤ). friction_energy (lagged_in c.args.c.now) c.args.friction c.args.slip c.args.c.now.from ≤ℤ z) (sym (returns-then-is_unloaded-clause-value c))
    (least_energy (lagged_in c.args.c.now) c.args.friction c.args.slip c.args.x.now (mul_nonneg_ℤ c.args.friction c.args.c.now.force c.requires.friction.low c.args.c.now.contact.pressing.low) (wide_slip c.args.slip c.requires.slip.low))
