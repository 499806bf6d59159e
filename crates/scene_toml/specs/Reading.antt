-- Keys that are read one after the other.
use Rattle.std.specs.Prelude.{List, [], ◌∷◌, Option, Some, None, Result, Ok, Err}
use Rattle.std.specs.Option.{option_or}
use Rattle.toml.specs.Data.{Data, Members, get_member}
use Rattle.scene_toml.specs.declared.refusal.SceneErr.{SceneErr}
use Rattle.scene_toml.specs.Keys.{Key}
use Rattle.scene_toml.specs.Values.{and_then}

-- A key of a table that gives an `S`: what is read at the key, or why it is refused, and where in the `S` it goes.
pub record Reading (S : Type 0) : Type 1 where
  pub Value : Type 0
  pub key : Key
  pub read : Option Data → Result Value SceneErr
  pub put : Value → S → S

-- The keys of a table, one after the other: all that they give, or the fault of the first that is refused.
abbrev pub read_keys : {S : Type 0} → List (Reading S) → Members → S → Result S SceneErr
read_keys [] ms s = Ok s
read_keys (reading ∷ more) ms s =
    and_then (reading.read (get_member reading.key.name ms)) (λ value. read_keys more ms (reading.put value s))

-- why something is refused, where it is
abbrev pub refusal : {T : Type 0} → Result T SceneErr → Option SceneErr
refusal (Ok value) = None
refusal (Err fault) = Some fault

-- the refusal of the first key that is refused, in the list's order
abbrev pub first_refusal : {S : Type 0} → List (Reading S) → Members → Option SceneErr
first_refusal [] ms = None
first_refusal (reading ∷ more) ms =
    option_or (refusal (reading.read (get_member reading.key.name ms))) (first_refusal more ms)
