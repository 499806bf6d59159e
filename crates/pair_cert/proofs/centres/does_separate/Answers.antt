use Rattle.std.proofs.Common.{◌<ℤ◌, All, subst, rules, w64, to_z, of_z, ◌≡◌}
use Rattle.space3.specs.Vectors.{dot_product}
use Rattle.pair_cert.proofs.SeparatedEnds.{separated_by_level}
use Rattle.pair_cert.proofs.centres.does_separate.Goals as goal

pub returns : goal.returns
returns c =
    let level = c.greatest_along.result in
    let same : to_z w64 (of_z w64 level) ≡ level = search rules in
    λ t. separated_by_level c.args.n c.args.first.now c.args.second.now level c.greatest_along.ensures
    (subst (λ l. All (λ p. l <ℤ dot_product c.args.n p) c.args.first.now) same (c.are_past.ensures t))
