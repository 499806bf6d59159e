use Rattle.std.proofs.Common.{rules}
use Rattle.std.proofs.lemmas.List.Sorted.{answers_always}
use Rattle.block_rows.specs.declared.cells.WideCell.{WideCell}
use Rattle.block_rows.proofs.Placed.{searched}
use Rattle.block_rows.proofs.cells.place_in.Goals as goal

pub returns : goal.returns
returns c =
    let facts = c.binary_search_by_key.ensures in
    let by_column = facts.position (λ (cell : WideCell). cell.column) (answers_always _ _ _ (λ f a r g called. search rules)) in
    searched _ c.args.column c.requires _ facts.bound by_column
