-- How a plan ends.
use Rattle.std.specs.Prelude.{◌≡◌, ◌⊎◌, ◌==◌, ℕ, List, [], ◌∷◌, not, Option, Some, None, IfSome, IsTrue}
use Rattle.std.specs.List.{list_any}
use Rattle.shelf_io.specs.Shelf.{Files, Rose}
use Rattle.ipc_top.specs.declared.acts.Stop.TheVariants as stops
use Rattle.ipc_top.specs.Acts.{World, Did, Stops}
use Rattle.ipc_top.specs.CallsFor.{CallsFor}
use Rattle.ipc_top.specs.Commands.{command_of}
use Rattle.ipc_top.specs.Motions.{IsSafeThroughout}
use Rattle.ipc_top.specs.Plans.{Plan}
use Rattle.ipc_top.specs.Roles.{Seen, everywhere}

-- the status is one of these
abbrev pub IsOneOf : List ℕ → ℕ → Type 0
IsOneOf statuses status = IsTrue (list_any (λ s. s == status) statuses)

-- a status that comes where no act was stopped
abbrev pub IsPlain : ℕ → Type 0
IsPlain status = IsTrue (not (list_any (λ s. s == status) (3 ∷ 4 ∷ 8 ∷ 9 ∷ [])))

-- the statuses that the program has today
abbrev pub IsStatus : ℕ → Type 0
IsStatus = IsOneOf (0 ∷ 1 ∷ 2 ∷ 3 ∷ 4 ∷ 5 ∷ 6 ∷ 7 ∷ 8 ∷ 9 ∷ 10 ∷ [])

-- these are the files, or the words call for none
abbrev pub IsInput : List (List ℕ) → Option Files → Files → Type 0
IsInput words None files = command_of words ≡ None
IsInput words (Some told) files = files ≡ told

-- a plan was done whole, with its status
pub record EndsWhole (plan : Plan) (status : ℕ) (old new : World) : Type 0 where
  pub owed : status ≡ plan.status
  pub did : Did plan.acts old new

-- a plan ended with this status: whole, or stopped
pub record Closes (plan : Plan) (status : ℕ) (old new : World) : Type 0 where
  pub whole : IsPlain status → EndsWhole plan status old new
  pub read : status ≡ 3 → Stops stops.Read plan.acts old new
  pub write : status ≡ 4 → Stops stops.Write plan.acts old new
  pub console : status ≡ 9 → Stops stops.Console plan.acts old new
  pub memory : status ≡ 8 → Stops stops.Memory plan.acts old new

-- What words and files call for ended with this status, and bodies are safe throughout the motion that its acts show,
-- if they show one.
pub record Ends (words : List (List ℕ)) (seen : Seen) (status : ℕ) (old new : World) : Type 0 where
  pub plan : Plan
  pub called : CallsFor words seen plan
  pub closes : Closes plan status old new
  pub safe : IfSome plan.motion IsSafeThroughout

-- no count of faults rose
pub record NoFault (old new : World) : Type 0 where
  pub reads : ¬ Rose old.shelf.read_faults new.shelf.read_faults
  pub writes : ¬ Rose old.shelf.write_faults new.shelf.write_faults
  pub console : ¬ Rose old.console.faults new.console.faults

-- what words and files call for is done whole, unless something failed or memory was wanting
abbrev pub Completes : List (List ℕ) → ℕ → World → World → Type 0
Completes words status old new =
    (files : Files) (plan : Plan)
    → old.shelf.files ≡ Some files → CallsFor words (everywhere files) plan → NoFault old new
    → (status ≡ 8) ⊎ EndsWhole plan status old new
