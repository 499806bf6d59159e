use Rattle.std.proofs.Common.{length, arith, sym, ◌∙◌, ap}
use Rattle.std.specs.Prelude.{slice_get}
use Rattle.boundary.specs.Calls.PairWalk.{row_from}
use Rattle.boundary.specs.Pairs.{first_parts}
use Rattle.boundary.proofs.PairFirsts.{hit_row, skip_row}
use Rattle.boundary.proofs.pairs.first_in_rows.Goals as goal

pub returns-in-Some : goal.returns-in-Some
returns-in-Some c =
    sym
    (ap (λ l. slice_get l 0) c.loop-a.invariant
    ∙ hit_row (λ k. row_from c.args.surface.now c.args.kind k 0) c.loop-a.a
    (length (first_parts c.args.surface.now c.args.kind)) c.in-Some.pair
    (omega (arith, c.loop-a-test.true, c.first_count-a-end.ensures.count)) (sym c.in-Some.ensures))

pub loop-a-preserved : goal.loop-a-preserved
loop-a-preserved c =
    c.loop-a.invariant
    ∙ skip_row (λ k. row_from c.args.surface.now c.args.kind k 0) c.loop-a.a
    (length (first_parts c.args.surface.now c.args.kind))
    (omega (arith, c.loop-a-test.true, c.first_count-a-end.ensures.count))
    (sym c.first_in_row.ensures ∙ c.in_default.is)
