use Rattle.dec_text.proofs.Meaning.{value_or_answer}
use Rattle.dec_text.proofs.laws.answers_say_what_is_written.Goals as goal

pub returns : goal.returns
returns c = value_or_answer
