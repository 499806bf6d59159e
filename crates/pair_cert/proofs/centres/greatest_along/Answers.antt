use Rattle.std.proofs.Common.{◌≡◌, ◌∙◌, ◌≤ℤ◌, All, subst, rules, arith, w64, to_z, of_z}
use Rattle.std.proofs.lemmas.List.{take_all}
use Rattle.space3.specs.Vectors.{dot_product}
use Rattle.pair_cert.proofs.SeparatedEnds.{greatest_more}
use Rattle.pair_cert.proofs.centres.greatest_along.Goals as goal

pub loop-p-preserved : goal.loop-p-preserved
loop-p-preserved c =
    let g = to_z w64 c.loop-p.greatest-bits in
    let d = to_z w64 (of_z w64 c.short_dot.result) in
    let same : d ≡ c.short_dot.result = search rules in
    let most : to_z w64 (of_z w64 c.max-greatest.result) ≡ c.max-greatest.result = search rules in
    greatest_more c.args.n c.args.points.now c.loop-p.p-index g d (to_z w64 (of_z w64 c.max-greatest.result)) c.loop-p-test.true c.loop-p.invariant (same ∙ c.short_dot.ensures) (most ∙ c.max-greatest.ensures.value)

pub returns : goal.returns
returns c = subst (λ points. All (λ p. dot_product c.args.n p ≤ℤ to_z w64 c.loop-p.greatest-bits) points) (take_all c.loop-p.p-index c.args.points.now (omega arith)) c.loop-p.invariant
