use Rattle.std.proofs.Common.{length, ltb, ap, ◌∙◌}
use Rattle.dec_text.specs.Calls.Reader.{is_mark}
use Rattle.dec_text.proofs.FirstMatches.{ltb-position_or_len}
use Rattle.dec_text.proofs.parts.Parts.of.Goals as goal

pub returns-clause-has_exponent : goal.returns-clause-has_exponent
returns-clause-has_exponent c =
    let text = c.args.text.now in
    ap (λ n. ltb n (length text)) c.mark_index-mark.ensures.index ∙ ltb-position_or_len is_mark text
