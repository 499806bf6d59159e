use Rattle.safe_motion.proofs.ExampleLemmas.{overturned_between, overturned_refused}
use Rattle.safe_motion.proofs.examples.overturning_tetrahedron_is_refused.Goals as goal

pub returns-clause-between : goal.returns-clause-between
returns-clause-between c = overturned_between

pub returns-clause-refused : goal.returns-clause-refused
returns-clause-refused c = overturned_refused
