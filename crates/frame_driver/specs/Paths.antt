-- A path: frame after frame.
use Rattle.std.specs.Prelude.{◌≡◌, ℕ, ℤ, ◌<ℤ◌, false, List, map, zip, IsTrue, slice_index_or}
use Rattle.list_laws.specs.Chains.{Follow}
use Rattle.space3.specs.declared.vectors.V3.{V3}
use Rattle.space3.specs.Mesh.{place_of}
use Rattle.space3.specs.Vectors.{difference}
use Rattle.surface_mesh.specs.declared.setup.Setup.{Setup}
use Rattle.surface_mesh.specs.Safety.{IsSafeAt, IsSafeStep}
use Rattle.line_search.specs.declared.step.Step.{Step}
use Rattle.potential_sum.specs.Potential.{potential}
use Rattle.potential_sum.specs.Terms.{FrameTerms, terms_of}
use Rattle.frame_driver.specs.Frames.{Frame, IsFrame, IsStepAt, last_after, places_after}

-- each place less the velocity there
abbrev pub less_velocities : (places velocity : List V3) → List V3
less_velocities places velocity = map (λ node. difference node.0 node.1) (zip places velocity)

-- the places before the first frame: the mesh's places less the velocities
abbrev pub first_before : Setup → List V3
first_before setup = less_velocities setup.mesh.places setup.velocity

-- where a frame leads from the places at its start and those before: to its last places, and those at its start
abbrev pub after_frame : List V3 × List V3 → Frame → List V3 × List V3
after_frame start frame = (last_after start.0 frame.steps, start.0)

-- The frames follow one another from the places `now` after the places `before`: each begins at the last places of
-- the one before it, after the places at that one's start.
abbrev pub FramesFrom : Setup → (tol : ℤ) (budget : ℕ) → (now before : List V3) → List Frame → Type 0
FramesFrom setup tol budget now before frames =
    Follow after_frame (λ start frame. IsFrame setup tol budget start.0 start.1 frame) (now, before) frames

-- the path of so many frames from the start
abbrev pub IsPath : Setup → (tol : ℤ) (budget : ℕ) → List Frame → Type 0
IsPath setup tol budget frames = FramesFrom setup tol budget setup.mesh.places (first_before setup) frames

-- each of the steps from the places `now` is safe
abbrev pub StepsAreSafe : Setup → (now : List V3) → List Step → Type 0
StepsAreSafe setup now steps = Follow places_after (λ x step. IsSafeStep setup x step.places) now steps

-- a frame from the places x is safe: each of its steps is, and so are its last places by themselves
pub record IsSafeFrame (setup : Setup) (x : List V3) (frame : Frame) : Type 0 where
  pub on_steps : StepsAreSafe setup x frame.steps
  pub at_end : IsSafeAt setup (last_after x frame.steps)

-- the last places of a frame from the places x
abbrev pub last_places : List V3 → Frame → List V3
last_places x frame = last_after x frame.steps

-- each of the frames from the places `now` is safe
abbrev pub FramesAreSafe : Setup → (now : List V3) → List Frame → Type 0
FramesAreSafe setup now frames = Follow last_places (IsSafeFrame setup) now frames

-- a step is the one at the places x, and lowers the potential
pub record GoesDown (setup : Setup) (terms : FrameTerms) (x : List V3) (step : Step) : Type 0 where
  pub step_at : IsStepAt setup terms x step
  pub lower : potential setup terms step.places <ℤ potential setup terms x

-- each step of a frame, which begins at the first places after the second, goes down the potential of the frame
abbrev pub FrameGoesDown : Setup → List V3 × List V3 → Frame → Type 0
FrameGoesDown setup start frame =
    Follow places_after (GoesDown setup (terms_of setup start.0 start.1)) start.0 frame.steps

-- each step of each of the frames from the places `now` after the places `before` does
abbrev pub FramesGoDown : Setup → (now before : List V3) → List Frame → Type 0
FramesGoDown setup now before frames = Follow after_frame (FrameGoesDown setup) (now, before) frames

-- each fixed node stands where it stood before
abbrev pub FixedNodesStay : Setup → (before after : List V3) → Type 0
FixedNodesStay setup before after =
    (node : ℕ) → IsTrue (slice_index_or setup.fixed node false) → place_of after node ≡ place_of before node

-- each step of a frame from the places x leaves them there
abbrev pub FrameHolds : Setup → (x : List V3) → Frame → Type 0
FrameHolds setup x frame = Follow places_after (λ before step. FixedNodesStay setup before step.places) x frame.steps

-- each step of each of the frames from the places `now` does
abbrev pub FramesHold : Setup → (now : List V3) → List Frame → Type 0
FramesHold setup now frames = Follow last_places (FrameHolds setup) now frames
