-- What a look-up in a table finds.
use Rattle.std.proofs.Common.{◌≡◌, Option, Some, None, Result, Ok, Err, option_map, IfSome, IfNone, refl, sym}
use Rattle.std.specs.Borrow.{Bor}
use Rattle.toml.specs.Data.{Data}
use Rattle.toml.specs.View.{view}
use Rattle.toml.specs.declared.value.Value.{Value}
use Rattle.scene_toml.specs.declared.refusal.SceneErr.{SceneErr}
use Rattle.scene_toml.specs.Values.{optional}

pub found_value : (r : Option (Bor Value)) (d : Option Data) → option_map (λ x. view x.now) r ≡ d → IfSome r (λ x. d ≡ Some (view x.now))
found_value None d e = tt
found_value (Some x) d e = sym e

pub absent_value : (r : Option (Bor Value)) (d : Option Data) → option_map (λ x. view x.now) r ≡ d → IfNone r (d ≡ None)
absent_value None d e = sym e
absent_value (Some x) d e = tt

-- what may be absent, where it is there
pub optional_found : {T : Type 0} (read : Option Data → Result T SceneErr) (value : Option Data) (d : Data) (x : T) → value ≡ Some d → read value ≡ Ok x → optional read value ≡ Ok (Some x)
optional_found read (Some d) e x found reading = rw reading refl
optional_found read None e x found reading = absurd cc

pub optional_refused : {T : Type 0} (read : Option Data → Result T SceneErr) (value : Option Data) (d : Data) (fault : SceneErr) → value ≡ Some d → read value ≡ Err fault → optional read value ≡ Err fault
optional_refused read (Some d) e fault found refused = rw refused refl
optional_refused read None e fault found refused = absurd cc
