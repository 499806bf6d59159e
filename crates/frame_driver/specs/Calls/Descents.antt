-- Steps of a frame, one after another.
use Rattle.std.specs.Prelude.{◌≡◌, ◌≤◌, ℕ, ℤ, Bool, List, [], length, if◌then◌else◌}
use Rattle.list_laws.specs.Chains.{Follow}
use Rattle.space3.specs.declared.vectors.V3.{V3}
use Rattle.surface_mesh.specs.declared.setup.Setup.{Setup}
use Rattle.potential_sum.specs.Terms.{FrameTerms}
use Rattle.line_search.specs.declared.step.Step.{Step}
use Rattle.line_search.specs.Poses.{IsPose}
use Rattle.line_search.specs.declared.end.FrameEnd.{FrameEnd}
use Rattle.frame_driver.specs.declared.frame.Next.{Next}
use Rattle.frame_driver.specs.declared.frame.Next.TheVariants as next
use Rattle.frame_driver.specs.Frames.{EndsAt, GoesOn, HasNoStep, IsAtRest, last_after, places_after}

-- a frame goes on from the places x by this step, to places at which the bodies may stand
pub record LeadsOn (setup : Setup) (tol : ℤ) (terms : FrameTerms) (x : List V3) (step : Step) : Type 0 where
  pub goes_on : GoesOn setup tol terms x step
  pub pose : IsPose setup step.places

-- what comes next at the places x: they are at rest; else there is no step; else the step
abbrev pub ComesNext : Setup → (tol : ℤ) → FrameTerms → List V3 → Next → Type 0
ComesNext setup tol terms x next.Converged = IsAtRest setup tol terms x
ComesNext setup tol terms x next.Stalled = ¬ IsAtRest setup tol terms x × HasNoStep setup terms x
ComesNext setup tol terms x (next.Step step) = LeadsOn setup tol terms x step

-- the notes of some steps: the steps where notes are kept, else none
abbrev pub notes_of : (keep : Bool) → List Step → List Step
notes_of keep steps = if keep then steps else []

-- so many steps led from the places `now` to the places x, and these are their notes
pub record HasCome (setup : Setup) (tol : ℤ) (terms : FrameTerms) (keep : Bool) (now x : List V3) (notes : List Step) (taken : ℕ) : Type 0 where
  pub steps : List Step
  pub follow : Follow places_after (GoesOn setup tol terms) now steps
  pub counted : length steps ≡ taken
  pub last : last_after now steps ≡ x
  pub noted : notes ≡ notes_of keep steps
  pub pose : IsPose setup x

-- the steps from the places `now` ended so at the places x, and these are their notes
pub record Descends (setup : Setup) (tol : ℤ) (budget : ℕ) (terms : FrameTerms) (keep : Bool) (now x : List V3) (notes : List Step) (end : FrameEnd) : Type 0 where
  pub taken : ℕ
  pub come : HasCome setup tol terms keep now x notes taken
  pub few : taken ≤ budget
  pub ends : EndsAt setup tol budget terms taken x end
