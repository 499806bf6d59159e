use Rattle.scene_toml.specs.Readings.{no_scene, scene_keys}
use Rattle.scene_toml.proofs.FirstRefusal.{refusal_of_keys}
use Rattle.scene_toml.proofs.laws.scenes_are_refused_in_key_order.Goals as goal

pub returns : goal.returns
returns c = λ members. refusal_of_keys scene_keys members no_scene
