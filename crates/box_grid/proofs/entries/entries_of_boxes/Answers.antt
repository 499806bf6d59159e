use Rattle.std.proofs.Common.{◌∙◌, ◌%◌, ◌<◌, ap, length, map, sym, subst, arith}
use Rattle.std.specs.List.{All}
use Rattle.std.proofs.lemmas.Result.{IfOk-weaker}
use Rattle.std.proofs.lemmas.List.Sorted.{IsNonDecreasingBy-from_sort}
use Rattle.box_grid.specs.Calls.Cells.{entry_of}
use Rattle.box_grid.proofs.SortedNumbers.{positions_there, sorted_form}
use Rattle.box_grid.proofs.entries.entries_of_boxes.Goals as goal

pub entries_of_numbers-requires-clause-there : goal.entries_of_numbers-requires-clause-there
entries_of_numbers-requires-clause-there c =
    subst (All (λ n. n % 4294967296 < length c.args.boxes.now)) (sym c.deref.ensures.value)
    (positions_there c.args.level c.args.boxes.now c.in_ok-numbers.numbers.items c.sort_unstable.new.self.items (omega (arith, c.requires.few)) c.in_ok-numbers.ensures c.sort_unstable.ensures.permutation)

pub returns : goal.returns
returns c =
    let numbers = c.sort_unstable.new.self.items in
    IfOk-weaker c.entries_of_numbers.result _ _
    (λ sorted is. sorted_form c.args.level c.args.boxes.now sorted.items c.in_ok-numbers.numbers.items numbers (omega (arith, c.requires.few))
    c.in_ok-numbers.ensures c.sort_unstable.ensures.permutation (IsNonDecreasingBy-from_sort (λ n. n) numbers c.sort_unstable.ensures.sorted)
    (is ∙ ap (map (entry_of c.args.boxes.now)) c.deref.ensures.value))
    c.entries_of_numbers.ensures
