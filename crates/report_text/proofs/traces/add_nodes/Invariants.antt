use Rattle.std.proofs.Common.{◌≡◌, ◌++◌, length, take}
use Rattle.report_text.specs.Traces.{node_lines}
use Rattle.report_text.proofs.traces.add_nodes.Given as goal

abbrev pub invariant-loop-number : goal.invariant-loop-number
invariant-loop-number l =
    l.text.items ≡ l.fn.text.items ++ node_lines (take (length l.yielded) l.numbers) (take (length l.yielded) l.direction)
