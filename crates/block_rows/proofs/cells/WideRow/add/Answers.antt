use Rattle.std.proofs.Common.{List, ◌∙◌, ap, refl, subst, ◌^◌}
use Rattle.block_rows.specs.declared.cells.WideCell.{WideCell}
use Rattle.block_rows.specs.Calls.Cells.{wide_entries, wide_matrix}
use Rattle.block_rows.specs.Calls.Entries.{with_entry}
use Rattle.block_rows.specs.Calls.Places.{IsGapFor, IsPlaceOf}
use Rattle.block_rows.proofs.Placed.{added_at_place, in_gap, small_at}
use Rattle.block_rows.proofs.cells.WideRow.add.Goals as goal

pub sum_of_blocks-sum-requires-clause-left : goal.sum_of_blocks-sum-requires-clause-left
sum_of_blocks-sum-requires-clause-left c =
    let place = subst (λ (cells : List WideCell). IsPlaceOf cells c.args.column c.in-Ok.at) c.deref.ensures.value c.in-Ok.ensures.found in
    small_at (2 ^ 125) c.args.column c.self.inside.cells.items c.args.self.now c.in-Ok.at c.index.result.now c.self.view_is c.requires.small place c.index.ensures

pub returns-in-Ok-clause-done : goal.returns-in-Ok-clause-done
returns-in-Ok-clause-done c =
    let place = subst (λ (cells : List WideCell). IsPlaceOf cells c.args.column c.in-Ok.at) c.deref.ensures.value c.in-Ok.ensures.found in
    added_at_place c.args.column (wide_matrix c.args.block) c.self.inside.cells.items c.args.self.now c.in-Ok.at c.index.result.now c.sum_of_blocks-sum.result c.self.view_is c.requires.ascending place c.index.ensures c.sum_of_blocks-sum.ensures

pub returns-in_ok-insert-in-Err-clause-done : goal.returns-in_ok-insert-in-Err-clause-done
returns-in_ok-insert-in-Err-clause-done c =
    let gap = subst (λ (cells : List WideCell). IsGapFor cells c.args.column c.in-Err.at) c.deref.ensures.value c.in-Err.ensures.absent in
    ap wide_entries c.in_ok-insert-in-Err.ensures.items ∙ in_gap c.args.column (wide_matrix c.args.block) c.self.inside.cells.items c.in-Err.at _ refl gap ∙ ap (with_entry c.args.column (wide_matrix c.args.block)) c.self.view_is
