use Rattle.safe_motion.proofs.ExampleLemmas.{swinging_depth}
use Rattle.safe_motion.proofs.examples.swinging_edge_needs_depth_six.Goals as goal

pub returns : goal.returns
returns c = swinging_depth
