use Rattle.line_fields.specs.Lines.{fields}
use Rattle.msh_rows.proofs.TagLoop.{SoFar}
use Rattle.msh_rows.proofs.tags.read_tags.Given as goal

abbrev pub invariant-loop-left : goal.invariant-loop-left
invariant-loop-left l = SoFar l.fn.count (fields l.fn.line) l.left (fields l.rest) l.tags.items

abbrev pub decreases-loop-left : goal.decreases-loop-left
decreases-loop-left l = l.left
