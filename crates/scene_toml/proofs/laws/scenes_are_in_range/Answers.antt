use Rattle.scene_toml.proofs.InRange.{scene_of_text-holds}
use Rattle.scene_toml.proofs.laws.scenes_are_in_range.Goals as goal

pub returns : goal.returns
returns c = scene_of_text-holds
