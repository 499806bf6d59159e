use Rattle.line_fields.proofs.Numbered.{numbered-rows}
use Rattle.line_fields.proofs.laws.numbered_lines_are_rows.Goals as goal

pub returns : goal.returns
returns c = numbered-rows
