use Rattle.safe_motion.proofs.BoxLemmas.{untouched_is_certified}
use Rattle.safe_motion.proofs.pair_laws.untouched_parts_are_certified.Goals as goal

pub returns : goal.returns
returns c = untouched_is_certified
