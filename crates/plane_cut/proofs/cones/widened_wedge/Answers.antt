use Rattle.std.proofs.Common.{pos, ◌<ℤ◌, ◌≤ℤ◌, ℤ, arith, subst, ◌∙◌}
use Rattle.std.proofs.lemmas.Int.{ints}
use Rattle.plane_cut.proofs.RaysAndWedges.{widens_high, widens_low, stays_left, stays_right, no_wedge}
use Rattle.plane_cut.proofs.cones.widened_wedge.Goals as goal

pub returns-then-to_high-lt0 : goal.returns-then-to_high-lt0
returns-then-to_high-lt0 c =
    let f : pos 0 <ℤ c.raw-from_low.result = omega (arith, ints) in
    let t : c.raw-to_high.result <ℤ pos 0 = omega (arith, ints) in
    widens_high c.args.low c.args.high c.args.row c.requires (subst (λ (z : ℤ). pos 0 <ℤ z) (c.raw-from_low.ensures ∙ c.turn.ensures) f) (subst (λ (z : ℤ). z <ℤ pos 0) (c.raw-to_high.ensures ∙ c.turn-2.ensures) t)

pub returns-else-to_high-lt0 : goal.returns-else-to_high-lt0
returns-else-to_high-lt0 c =
    let f : pos 0 <ℤ c.raw-from_low.result = omega (arith, ints) in
    let t : pos 0 ≤ℤ c.raw-to_high.result = omega (arith, ints) in
    stays_left c.args.low c.args.high c.args.row c.requires (subst (λ (z : ℤ). pos 0 <ℤ z) (c.raw-from_low.ensures ∙ c.turn.ensures) f) (subst (λ (z : ℤ). pos 0 ≤ℤ z) (c.raw-to_high.ensures ∙ c.turn-2.ensures) t)

pub returns-then-from_low-lt0 : goal.returns-then-from_low-lt0
returns-then-from_low-lt0 c =
    let f : c.raw-from_low.result <ℤ pos 0 = omega (arith, ints) in
    let t : pos 0 <ℤ c.raw-to_high.result = omega (arith, ints) in
    widens_low c.args.low c.args.high c.args.row c.requires (subst (λ (z : ℤ). z <ℤ pos 0) (c.raw-from_low.ensures ∙ c.turn.ensures) f) (subst (λ (z : ℤ). pos 0 <ℤ z) (c.raw-to_high.ensures ∙ c.turn-2.ensures) t)

pub returns-else-from_low-lt0 : goal.returns-else-from_low-lt0
returns-else-from_low-lt0 c =
    let f : pos 0 ≤ℤ c.raw-from_low.result = omega (arith, ints) in
    let t : pos 0 <ℤ c.raw-to_high.result = omega (arith, ints) in
    stays_right c.args.low c.args.high c.args.row c.requires (subst (λ (z : ℤ). pos 0 ≤ℤ z) (c.raw-from_low.ensures ∙ c.turn.ensures) f) (subst (λ (z : ℤ). pos 0 <ℤ z) (c.raw-to_high.ensures ∙ c.turn-2.ensures) t)

pub returns-else-to_high-gt0 : goal.returns-else-to_high-gt0
returns-else-to_high-gt0 c =
    let f : c.raw-from_low.result ≤ℤ pos 0 = omega (arith, ints) in
    let t : c.raw-to_high.result ≤ℤ pos 0 = omega (arith, ints) in
    no_wedge c.args.low c.args.high c.args.row c.requires (subst (λ (z : ℤ). z ≤ℤ pos 0) (c.raw-from_low.ensures ∙ c.turn.ensures) f) (subst (λ (z : ℤ). z ≤ℤ pos 0) (c.raw-to_high.ensures ∙ c.turn-2.ensures) t)
