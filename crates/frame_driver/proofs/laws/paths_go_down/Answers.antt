use Rattle.frame_driver.proofs.DownhillPaths.{path_goes_down}
use Rattle.frame_driver.proofs.laws.paths_go_down.Goals as goal

pub returns : goal.returns
returns c = path_goes_down
