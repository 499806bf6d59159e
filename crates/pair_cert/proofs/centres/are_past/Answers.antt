use Rattle.std.proofs.Common.{◌≡◌, ◌∙◌, ◌<ℤ◌, All, subst, rules, arith, w64, to_z, of_z}
use Rattle.std.proofs.lemmas.List.{take_all}
use Rattle.space3.specs.Vectors.{dot_product}
use Rattle.pair_cert.proofs.SeparatedEnds.{past_more}
use Rattle.pair_cert.proofs.centres.are_past.Goals as goal

pub loop-p-preserved : goal.loop-p-preserved
loop-p-preserved c =
    let same : to_z w64 (of_z w64 c.short_dot.result) ≡ c.short_dot.result = search rules in
    past_more c.args.n c.args.points.now c.loop-p.p-index (to_z w64 (of_z w64 c.args.level)) (to_z w64 (of_z w64 c.short_dot.result)) c.loop-p-test.true c.loop-p.invariant (same ∙ c.short_dot.ensures) c.if-short_dot-level.false

pub returns : goal.returns
returns c = λ t.
    let same : to_z w64 (of_z w64 c.args.level) ≡ c.args.level = search rules in
    subst (λ level. All (λ p. level <ℤ dot_product c.args.n p) c.args.points.now) same
    (subst (λ points. All (λ p. to_z w64 (of_z w64 c.args.level) <ℤ dot_product c.args.n p) points) (take_all c.loop-p.p-index c.args.points.now (omega arith)) c.loop-p.invariant)
