-- How a plan ends, as a call answers.
use Rattle.std.specs.Prelude.{ℕ, Result, Ok, Err}
use Rattle.shelf_io.specs.Shelf.{IsIfTold}
use Rattle.ipc_top.specs.declared.acts.Stop.TheVariants as stops
use Rattle.ipc_top.specs.declared.refusals.End.{End}
use Rattle.ipc_top.specs.declared.refusals.End.TheVariants as ends
use Rattle.ipc_top.specs.Acts.{World, Stops}
use Rattle.ipc_top.specs.Ends.{IsPlain, EndsWhole}
use Rattle.ipc_top.specs.Plans.{Plan}
use Rattle.ipc_top.specs.Roles.{Role, Seen}

-- the status of an answer
abbrev pub status_of : Result ℕ End → ℕ
status_of (Ok status) = status
status_of (Err (ends.Refused status)) = status
status_of (Err (ends.Stopped stops.Read)) = 3
status_of (Err (ends.Stopped stops.Write)) = 4
status_of (Err (ends.Stopped stops.Console)) = 9
status_of (Err (ends.Stopped stops.Memory)) = 8

-- a plan ended so: whole, also where it is a refusal, or by what stopped it
abbrev pub Follows : Plan → Result ℕ End → World → World → Type 0
Follows plan (Ok status) old new = IsPlain status × EndsWhole plan status old new
Follows plan (Err (ends.Refused status)) old new = IsPlain status × EndsWhole plan status old new
Follows plan (Err (ends.Stopped stop)) old new = Stops stop plan.acts old new

-- some plan of these ended so
pub record FollowsOne (IsCalledFor : Plan → Type 0) (result : Result ℕ End) (old new : World) : Type 0 where
  pub plan : Plan
  pub called : IsCalledFor plan
  pub follows : Follows plan result old new

-- some plan that is called for, where some files are seen, ended so; these are the told files where files are told
pub record Obeys (IsCalledFor : Seen → Plan → Type 0) (result : Result ℕ End) (old new : World) : Type 0 where
  pub seen : Seen
  pub told : (role : Role) → IsIfTold old.shelf.files (seen role)
  pub plan : Plan
  pub called : IsCalledFor seen plan
  pub follows : Follows plan result old new
