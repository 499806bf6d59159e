use Rattle.std.proofs.Common.{◌≡◌, ◌≤◌, ◌+◌, ◌-◌, length}
use Rattle.line_fields.specs.Lines.{numbered_from}
use Rattle.line_fields.proofs.Numbered.{IsLeftAfter}
use Rattle.line_fields.proofs.cursor.next_line.Given as goal

-- the lines so far have no field
abbrev pub invariant-loop-rest : goal.invariant-loop-rest
invariant-loop-rest l = record {
  same_rows : numbered_from l.fn.first l.fn.text ≡ numbered_from l.number l.rest;
  left : IsLeftAfter (l.number - l.fn.first) l.fn.text l.rest;
  from : l.fn.first ≤ l.number;
  within : l.number + length l.rest ≤ l.fn.first + length l.fn.text;
  shorter : length l.rest ≤ length l.fn.text;
}

abbrev pub decreases-loop-rest : goal.decreases-loop-rest
decreases-loop-rest l = length l.rest
