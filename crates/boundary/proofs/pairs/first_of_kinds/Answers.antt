use Rattle.std.proofs.Common.{sym, ◌∙◌, ap}
use Rattle.std.specs.Prelude.{slice_get}
use Rattle.boundary.specs.Pairs.{pairs_of_kind}
use Rattle.boundary.proofs.PairFirsts.{hit_list, skip_list}
use Rattle.boundary.proofs.PairStands.{rows_of_kind}
use Rattle.boundary.proofs.pairs.first_of_kinds.Goals as goal

pub returns-in-Some : goal.returns-in-Some
returns-in-Some c =
    let s = c.args.surface.now in
    sym
    (ap (λ l. slice_get l 0) c.loop-kind.invariant
    ∙ hit_list (pairs_of_kind s) c.args.kinds.now c.loop-kind.kind-index _ c.in-Some.pair c.loop-kind-test.true
    (ap (λ l. slice_get l 0) (rows_of_kind s _) ∙ sym c.in-Some.ensures))

pub loop-kind-preserved : goal.loop-kind-preserved
loop-kind-preserved c =
    let s = c.args.surface.now in
    c.loop-kind.invariant
    ∙ skip_list (pairs_of_kind s) c.args.kinds.now c.loop-kind.kind-index _ c.loop-kind-test.true
    (ap (λ l. slice_get l 0) (rows_of_kind s _) ∙ (sym c.first_in_rows.ensures ∙ c.in_default.is))
