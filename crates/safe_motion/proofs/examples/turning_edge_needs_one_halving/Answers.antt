use Rattle.safe_motion.proofs.ExampleLemmas.{turning_not_whole, turning_certified}
use Rattle.safe_motion.proofs.examples.turning_edge_needs_one_halving.Goals as goal

pub returns-clause-whole : goal.returns-clause-whole
returns-clause-whole c = turning_not_whole

pub returns-clause-certified : goal.returns-clause-certified
returns-clause-certified c = turning_certified
