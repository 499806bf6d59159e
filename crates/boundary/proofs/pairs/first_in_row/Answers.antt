use Rattle.std.proofs.Common.{length, arith, sym, ◌∙◌}
use Rattle.boundary.specs.Pairs.{counts, pair_of, second_parts}
use Rattle.boundary.proofs.PairFirsts.{skip}
use Rattle.boundary.proofs.pairs.first_in_row.Goals as goal

pub loop-b-preserved : goal.loop-b-preserved
loop-b-preserved c =
    c.loop-b.invariant
    ∙ skip (λ k. counts c.args.surface.now (pair_of c.args.kind c.args.a k)) (pair_of c.args.kind c.args.a) c.loop-b.b
    (length (second_parts c.args.surface.now c.args.kind))
    (omega (arith, c.loop-b-test.true, c.second_count-b-end.ensures.count))
    (sym c.counts.ensures ∙ c.if-counts.false)
