use Rattle.std.proofs.Common.{◌≡◌, ◌≤◌, ◌+◌, length}
use Rattle.line_fields.specs.Lines.{lines, numbered, numbered_from}
use Rattle.msh_text.specs.FirstFault.{start}
use Rattle.msh_text.specs.Calls.Reading.{read, progress_of}
use Rattle.msh_text.proofs.read.read.Given as goal

-- reading on from here gives what reading from the start does
abbrev pub invariant-loop-line : goal.invariant-loop-line
invariant-loop-line l = record {
  reads : read (start l.fn.digits l.fn.snap) (numbered l.fn.text) (length (lines l.fn.text)) ≡ read (progress_of l.reader) (numbered_from l.first l.rest) (length (lines l.fn.text));
  within : l.first + length l.rest ≤ 1 + length l.fn.text;
}

abbrev pub decreases-loop-line : goal.decreases-loop-line
decreases-loop-line l = length l.rest
