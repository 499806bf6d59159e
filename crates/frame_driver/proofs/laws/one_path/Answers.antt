use Rattle.frame_driver.proofs.OnePath.{one_path_from}
use Rattle.frame_driver.proofs.laws.one_path.Goals as goal

pub returns : goal.returns
returns c = one_path_from
