-- How the taking of a file ends, as a call answers.
use Rattle.std.specs.Prelude.{◌≡◌, ◌<◌, ◌+◌, ℕ, List, [], ◌∷◌, length, Option, Some, None, IfSome, IsSomeAnd, Result, Ok, Err}
use Rattle.std.specs.declared.vec.Vec.{Vec}
use Rattle.std.specs.FinMap.{get}
use Rattle.ipc_top.specs.declared.refusals.End.{End}
use Rattle.ipc_top.specs.declared.refusals.End.TheVariants as ends
use Rattle.ipc_top.specs.Acts.{Act, Take, World, Did, IsDue}
use Rattle.ipc_top.specs.Files.{Outcome, Accepted, Refused, FileMeans}
use Rattle.ipc_top.specs.Plans.{Plan, then_plan}
use Rattle.ipc_top.specs.Calls.Plans.{Follows}

-- a file that is there was taken whole, or none of it where it is longer than the limit
abbrev pub IsTaken : (limit : ℕ) → Option (List ℕ) → Option (List ℕ) → Type 0
IsTaken limit file None = IsSomeAnd file (λ bytes. limit < length bytes)
IsTaken limit file (Some taken) = file ≡ Some taken

-- a plan that may follow an outcome: that of its refusal, or any that has an act
abbrev pub MayFollow : {X : Type 0} → Outcome X → Plan → Type 0
MayFollow (Accepted x) plan = IsDue plan.acts
MayFollow (Refused refusal) plan = plan ≡ refusal

-- a call answered an outcome: it gave what the outcome gives, and did these acts; or it ended whatever plan may
-- follow them
abbrev pub Answers : {X : Type 0} → List Act → Outcome X → Result X End → World → World → Type 0
Answers acts outcome (Ok x) old new = (outcome ≡ Accepted x) × Did acts old new
Answers acts outcome (Err end) old new =
    (rest : Plan) → MayFollow outcome rest → Follows (then_plan acts rest) (Err end) old new

-- a call took a file, and answered what comes of it
pub record Takes {X : Type 0} (name : List ℕ) (limit : ℕ) (Means : List ℕ → Outcome X → Type 0) (result : Result X End) (old new : World) : Type 0 where
  pub file : Option (List ℕ)
  pub told : IfSome old.shelf.files (λ files. get files name ≡ file)
  pub outcome : Outcome X
  pub means : FileMeans name limit Means file outcome
  pub answers : Answers (Take name ∷ []) outcome result old new
  pub too_long : result ≡ Err (ends.Refused 10) → new.shelf.taken ≡ limit + 1

-- a call looked through bytes, and answered what comes of them
pub record LooksThrough {X : Type 0} (Means : Outcome X → Type 0) (result : Result X End) (old new : World) : Type 0 where
  pub outcome : Outcome X
  pub means : Means outcome
  pub answers : Answers [] outcome result old new

-- the bytes of a file that was taken
abbrev pub bytes_of : {A E : Type 0} → Result (Vec ℕ A) E → Result (List ℕ) E
bytes_of (Ok v) = Ok v.items
bytes_of (Err e) = Err e
