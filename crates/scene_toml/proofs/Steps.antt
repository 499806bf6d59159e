-- Steps that may be refused.
use Rattle.std.proofs.Common.{◌≡◌, Result, Ok, Err, refl}
use Rattle.std.specs.Result.{IsErrAnd}
use Rattle.scene_toml.specs.declared.refusal.SceneErr.{SceneErr}
use Rattle.scene_toml.specs.declared.refusal.ReadSceneErr.{ReadSceneErr}
use Rattle.scene_toml.specs.declared.refusal.ReadSceneErr.TheVariants.{Memory, Scene}
use Rattle.scene_toml.specs.Gives.{Fails, Gives}
use Rattle.scene_toml.specs.Values.{and_then}

fails_with : {X Y : Type 0} (e : ReadSceneErr) (step : Result X SceneErr) (whole : Result Y SceneErr) → Fails e step → ((fault : SceneErr) → step ≡ Err fault → whole ≡ Err fault) → Fails e whole
fails_with Memory step whole fails along = tt
fails_with (Scene fault) step whole fails along = along fault fails

-- where a step fails, and its fault is that of the whole, the whole fails as the step does
pub gives_failure : {X Y : Type 0} (r : Result Y ReadSceneErr) (e : ReadSceneErr) (step : Result X SceneErr) (whole : Result Y SceneErr) → IsErrAnd r (λ f. f ≡ e) → Fails e step
    → ((fault : SceneErr) → step ≡ Err fault → whole ≡ Err fault) → Gives r whole
gives_failure (Ok y) e step whole is fails along = absurd is
gives_failure (Err f) e step whole is fails along = rw is (fails_with e step whole fails along)

-- what follows from the value of a step that isn't refused
pub and_then-ok : {T U P : Type 0} (step : Result T SceneErr) (f : T → Result U SceneErr) (y : U) → and_then step f ≡ Ok y → ((x : T) → step ≡ Ok x → f x ≡ Ok y → P) → P
and_then-ok (Ok x) f y e then = then x refl e
and_then-ok (Err fault) f y e then = absurd cc

-- where memory was wanting, nothing is owed
pub gives_memory : {Y : Type 0} (r : Result Y ReadSceneErr) (whole : Result Y SceneErr) → IsErrAnd r (λ f. f ≡ Memory) → Gives r whole
gives_memory (Ok y) whole is = absurd is
gives_memory (Err f) whole is = rw is tt
