use Rattle.std.proofs.Common.{◌≡◌, ◌++◌, take}
use Rattle.report_text.specs.Words.{spaced}
use Rattle.report_text.proofs.lines.add_fields.Given as goal

abbrev pub invariant-loop-n : goal.invariant-loop-n
invariant-loop-n l = l.line.items ≡ l.fn.line.items ++ spaced (take l.n-index l.numbers)
