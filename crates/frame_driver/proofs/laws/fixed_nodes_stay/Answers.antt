use Rattle.frame_driver.proofs.HeldNodes.{path_holds}
use Rattle.frame_driver.proofs.laws.fixed_nodes_stay.Goals as goal

pub returns : goal.returns
returns c = path_holds
