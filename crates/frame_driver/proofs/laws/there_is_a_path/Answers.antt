use Rattle.frame_driver.proofs.Existence.{path_from}
use Rattle.frame_driver.proofs.laws.there_is_a_path.Goals as goal

pub returns : goal.returns
returns c = path_from
