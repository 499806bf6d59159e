use Rattle.std.proofs.Common.{◌≡◌, pos, ◌<ℤ◌, ◌≤ℤ◌, ℤ, arith, subst, sym, ◌∙◌}
use Rattle.std.proofs.lemmas.Int.{ints}
use Rattle.plane_cut.proofs.RaysAndWedges.{opens_left, opens_right, stays_ray, no_ray}
use Rattle.plane_cut.proofs.cones.opened_ray.Goals as goal

pub returns-then-left-gt0 : goal.returns-then-left-gt0
returns-then-left-gt0 c =
    let h : pos 0 <ℤ c.raw-left.result = omega (arith, ints) in
    opens_left c.args.only c.args.row (subst (λ (z : ℤ). pos 0 <ℤ z) (c.raw-left.ensures ∙ c.turn.ensures) h)

pub returns-then-left-lt0 : goal.returns-then-left-lt0
returns-then-left-lt0 c =
    let h : c.raw-left.result <ℤ pos 0 = omega (arith, ints) in
    opens_right c.args.only c.args.row (subst (λ (z : ℤ). z <ℤ pos 0) (c.raw-left.ensures ∙ c.turn.ensures) h)

pub returns-then-raw-gt0 : goal.returns-then-raw-gt0
returns-then-raw-gt0 c =
    let e : c.raw-left.result ≡ pos 0 = omega (arith, ints) in
    let h : pos 0 <ℤ c.raw.result = omega (arith, ints) in
    stays_ray c.args.only c.args.row c.requires (sym (c.raw-left.ensures ∙ c.turn.ensures) ∙ e) (subst (λ (z : ℤ). pos 0 <ℤ z) (c.raw.ensures ∙ c.scalar_product.ensures) h)

pub returns-else-raw-gt0 : goal.returns-else-raw-gt0
returns-else-raw-gt0 c =
    let e : c.raw-left.result ≡ pos 0 = omega (arith, ints) in
    let h : c.raw.result ≤ℤ pos 0 = omega (arith, ints) in
    no_ray c.args.only c.args.row c.requires (sym (c.raw-left.ensures ∙ c.turn.ensures) ∙ e) (subst (λ (z : ℤ). z ≤ℤ pos 0) (c.raw.ensures ∙ c.scalar_product.ensures) h)
