use Rattle.frame_driver.proofs.SafePaths.{path_is_safe}
use Rattle.frame_driver.proofs.laws.paths_are_safe.Goals as goal

pub returns : goal.returns
returns c = path_is_safe
