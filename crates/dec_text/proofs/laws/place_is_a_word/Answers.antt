use Rattle.dec_text.proofs.GridTexts.{place_is_word}
use Rattle.dec_text.proofs.laws.place_is_a_word.Goals as goal

pub returns : goal.returns
returns c = place_is_word
