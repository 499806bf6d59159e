-- What a reader's answer says of the reading.
use Rattle.std.specs.Prelude.{◌≡◌, Result, Ok, Err}
use Rattle.scene_toml.specs.declared.refusal.ReadSceneErr.{ReadSceneErr}
use Rattle.scene_toml.specs.declared.refusal.ReadSceneErr.TheVariants.{Memory, Scene}
use Rattle.scene_toml.specs.declared.refusal.SceneErr.{SceneErr}

-- memory was wanting, or the fault is that of the reading
abbrev pub Fails : {X : Type 0} → ReadSceneErr → Result X SceneErr → Type 0
Fails Memory reading = Unit {0}
Fails (Scene e) reading = reading ≡ Err e

-- the answer is the reading, unless memory was wanting
abbrev pub Gives : {X : Type 0} → Result X ReadSceneErr → Result X SceneErr → Type 0
Gives (Ok x) reading = reading ≡ Ok x
Gives (Err e) reading = Fails e reading
