-- A frame: steps down the potential until it is at rest, has no step, or has spent its budget.
use Rattle.std.specs.Prelude.{◌≡◌, ◌≤◌, ◌≤ℤ◌, ℕ, ℤ, pos, unsigned_abs, List, length, All}
use Rattle.std.specs.List.{fold}
use Rattle.list_laws.specs.Chains.{Follow}
use Rattle.space3.specs.declared.vectors.V3.{V3}
use Rattle.surface_mesh.specs.declared.setup.Setup.{Setup}
use Rattle.potential_sum.specs.Terms.{FrameTerms, terms_of}
use Rattle.potential_sum.specs.Potential.{gradient}
use Rattle.line_search.specs.declared.step.DirKind.TheVariants as kinds
use Rattle.line_search.specs.declared.step.Step.{Step}
use Rattle.line_search.specs.Accepted.{HasNoAccepted}
use Rattle.line_search.specs.Steps.{IsFirstStep}
use Rattle.line_search.specs.declared.end.FrameEnd.{FrameEnd}
use Rattle.line_search.specs.declared.end.FrameEnd.TheVariants as ends
use Rattle.frame_driver.specs.Directions.{HasNoNewtonStep, IsNewtonAt, jacobi_at}

-- no component of the gradient is above the tolerance in absolute value
abbrev pub IsAtRest : Setup → (tol : ℤ) → FrameTerms → List V3 → Type 0
IsAtRest setup tol terms places = All (λ slope. pos (unsigned_abs slope) ≤ℤ tol) (gradient setup terms places)

-- the step at the places x: that of Newton's direction where it has one, else that of Jacobi's
pub data IsStepAt (setup : Setup) (terms : FrameTerms) (x : List V3) (step : Step) : Type 0 where
  OfNewton : (direction : List V3) → IsNewtonAt setup terms x direction
      → IsFirstStep setup terms x kinds.Newton direction step → IsStepAt setup terms x step
  OfJacobi : HasNoNewtonStep setup terms x
      → IsFirstStep setup terms x kinds.Jacobi (jacobi_at setup terms x) step → IsStepAt setup terms x step

-- there is a step at the places x
abbrev pub HasStep : Setup → FrameTerms → List V3 → Type 0
HasStep setup terms x = (step : Step) × IsStepAt setup terms x step

-- there is no step at the places x
abbrev pub HasNoStep : Setup → FrameTerms → List V3 → Type 0
HasNoStep setup terms x = HasNoNewtonStep setup terms x × HasNoAccepted setup terms x (jacobi_at setup terms x)

-- a frame goes on from the places x by this step: it isn't at rest there, and the step is the one there
pub record GoesOn (setup : Setup) (tol : ℤ) (terms : FrameTerms) (x : List V3) (step : Step) : Type 0 where
  pub restless : ¬ IsAtRest setup tol terms x
  pub step_at : IsStepAt setup terms x step

-- the places after a step
abbrev pub places_after : List V3 → Step → List V3
places_after x step = step.places

-- the places after the last of the steps, which begin at the places `now`
abbrev pub last_after : (now : List V3) → List Step → List V3
last_after now steps = fold places_after now steps

-- a frame: its steps, and its end with their number
pub record Frame : Type 0 where
  pub steps : List Step
  pub end : FrameEnd

-- A frame ends at the places x after so many steps: converged at rest; else stalled where there is no step; else
-- with its budget spent.
abbrev pub EndsAt : Setup → (tol : ℤ) (budget : ℕ) → FrameTerms → (taken : ℕ) → List V3 → FrameEnd → Type 0
EndsAt setup tol budget terms taken x (ends.Converged steps) = (steps ≡ taken) × IsAtRest setup tol terms x
EndsAt setup tol budget terms taken x (ends.Stalled steps) =
    (steps ≡ taken) × ¬ IsAtRest setup tol terms x × HasNoStep setup terms x
EndsAt setup tol budget terms taken x (ends.Budget steps) =
    (steps ≡ taken) × ¬ IsAtRest setup tol terms x × HasStep setup terms x × (taken ≡ budget)

-- the frame that begins at the places `now` after the places `before`
pub record IsFrame (setup : Setup) (tol : ℤ) (budget : ℕ) (now before : List V3) (frame : Frame) : Type 0 where
  pub few : length frame.steps ≤ budget
  pub steps : Follow places_after (GoesOn setup tol (terms_of setup now before)) now frame.steps
  pub ends : EndsAt setup tol budget (terms_of setup now before) (length frame.steps) (last_after now frame.steps) frame.end
