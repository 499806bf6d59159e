use Rattle.std.proofs.Common.{length, ap, ◌∙◌}
use Rattle.std.specs.Prelude.{unwrap_or}
use Rattle.dec_text.specs.Calls.Reader.{is_mark}
use Rattle.dec_text.proofs.FirstMatches.{unwrap_or-position}
use Rattle.dec_text.proofs.parts.mark_index.Goals as goal

pub returns-clause-index : goal.returns-clause-index
returns-clause-index c =
    let text = c.args.text.now in
    c.unwrap_or.ensures ∙ ap (λ o. unwrap_or o (length text)) c.first_mark.ensures ∙ unwrap_or-position is_mark text
