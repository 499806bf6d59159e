-- Keys that are tried one after the other.
use Rattle.std.proofs.Common.{◌≡◌, List, [], ◌∷◌, Result, Ok, Err, Option, refl}
use Rattle.std.specs.Option.{option_or}
use Rattle.toml.specs.Data.{Members, get_member}
use Rattle.scene_toml.specs.declared.refusal.SceneErr.{SceneErr}
use Rattle.scene_toml.specs.Reading.{Reading, first_refusal, read_keys, refusal}
use Rattle.scene_toml.specs.Values.{and_then}

refusal_of_both : {T U : Type 0} (step : Result T SceneErr) (then : T → Result U SceneErr) (later : Option SceneErr) → ((x : T) → refusal (then x) ≡ later)
    → refusal (and_then step then) ≡ option_or (refusal step) later
refusal_of_both (Ok x) then later h = h x
refusal_of_both (Err fault) then later h = refl

pub refusal_of_keys : {S : Type 0} (keys : List (Reading S)) (ms : Members) (s : S) → refusal (read_keys keys ms s) ≡ first_refusal keys ms
refusal_of_keys [] ms s = refl
refusal_of_keys (reading ∷ more) ms s =
    refusal_of_both (reading.read (get_member reading.key.name ms)) (λ value. read_keys more ms (reading.put value s)) (first_refusal more ms)
    (λ value. refusal_of_keys more ms (reading.put value s))
