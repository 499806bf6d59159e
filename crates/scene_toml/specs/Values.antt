-- The value at a key, or why it is refused.
use Rattle.std.specs.Prelude.{List, ℕ, ℤ, pos, length, Bool, Option, Some, None, Result, Ok, Err, ◌&&◌, int_le, bytes_eq, codes, if◌then◌else◌}
use Rattle.toml.specs.Data.{Data, string, boolean, integer, array, Items, no_items, item}
use Rattle.dec_text.specs.declared.Snap.{Snap}
use Rattle.dec_text.specs.declared.Snap.TheVariants.{Nearest, Exact}
use Rattle.space3.specs.declared.vectors.V3.{V3}
use Rattle.space3.specs.Vectors.{vector}
use Rattle.scene_toml.specs.declared.keys.Section.{Section}
use Rattle.scene_toml.specs.declared.refusal.SceneErr.{SceneErr}
use Rattle.scene_toml.specs.declared.refusal.SceneErr.TheVariants.{Missing, WrongType, OutOfRange}
use Rattle.scene_toml.specs.Keys.{Key, printed}

-- what follows a value, where it isn't refused
abbrev pub and_then : {T U : Type 0} → Result T SceneErr → (T → Result U SceneErr) → Result U SceneErr
and_then (Ok x) f = f x
and_then (Err e) f = Err e

-- the number, where it lies in the key's range
abbrev pub in_range : Section → Key → ℤ → Result ℤ SceneErr
in_range section key n =
    if int_le key.least n && int_le n key.most then Ok n else Err (OutOfRange (printed section key.name) n)

-- an integer in the key's range
abbrev pub integer_of : Section → Key → Option Data → Result ℤ SceneErr
integer_of section key (Some (integer n)) = in_range section key n
integer_of section key (Some _) = Err (WrongType (printed section key.name))
integer_of section key None = Err (Missing (printed section key.name))

-- an integer in the key's range, or what stands for one that is absent
abbrev pub integer_or : Section → Key → ℤ → Option Data → Result ℤ SceneErr
integer_or section key absent (Some value) = integer_of section key (Some value)
integer_or section key absent None = Ok absent

-- true or false, or what stands for one that is absent
abbrev pub bool_of : Section → Key → Bool → Option Data → Result Bool SceneErr
bool_of section key absent (Some (boolean b)) = Ok b
bool_of section key absent (Some _) = Err (WrongType (printed section key.name))
bool_of section key absent None = Ok absent

-- the snap that a word names
abbrev pub snap_named : List ℕ → Option Snap
snap_named word =
    if bytes_eq word (codes "nearest") then Some Nearest else if bytes_eq word (codes "exact") then Some Exact else None

-- a word's snap; a word that names none is out of range, with its length in bytes
abbrev pub snap_or_refused : Section → Key → ℤ → Option Snap → Result Snap SceneErr
snap_or_refused section key length (Some snap) = Ok snap
snap_or_refused section key length None = Err (OutOfRange (printed section key.name) length)

-- a word that names a snap, or what stands for one that is absent
abbrev pub snap_of : Section → Key → Snap → Option Data → Result Snap SceneErr
snap_of section key absent (Some (string word)) = snap_or_refused section key (pos (length word)) (snap_named word)
snap_of section key absent (Some _) = Err (WrongType (printed section key.name))
snap_of section key absent None = Ok absent

-- a text whose length in bytes is in the key's range
abbrev pub text_of : Section → Key → Option Data → Result (List ℕ) SceneErr
text_of section key (Some (string text)) = and_then (in_range section key (pos (length text))) (λ _. Ok text)
text_of section key (Some _) = Err (WrongType (printed section key.name))
text_of section key None = Err (Missing (printed section key.name))

-- the vector of three integers
abbrev pub vector_of_three : Data → Data → Data → Option V3
vector_of_three (integer x) (integer y) (integer z) = Some (vector x y z)
vector_of_three _ _ _ = None

-- the three integers that are all of a list
abbrev pub three_integers : Items → Option V3
three_integers (item x (item y (item z no_items))) = vector_of_three x y z
three_integers _ = None

-- a vector whose components are in the key's range
abbrev pub components_of : Section → Key → Option V3 → Result V3 SceneErr
components_of section key (Some v) =
    and_then (in_range section key v.x) (λ x.
    and_then (in_range section key v.y) (λ y.
    and_then (in_range section key v.z) (λ z.
    Ok (vector x y z))))
components_of section key None = Err (WrongType (printed section key.name))

-- a list of three integers in the key's range, or what stands for one that is absent
abbrev pub vector_of : Section → Key → V3 → Option Data → Result V3 SceneErr
vector_of section key absent (Some (array items)) = components_of section key (three_integers items)
vector_of section key absent (Some _) = Err (WrongType (printed section key.name))
vector_of section key absent None = Ok absent

-- what is read where something stands, and nothing where it is absent
abbrev pub optional : {T : Type 0} → (Option Data → Result T SceneErr) → Option Data → Result (Option T) SceneErr
optional read (Some d) = and_then (read (Some d)) (λ value. Ok (Some value))
optional read None = Ok None
