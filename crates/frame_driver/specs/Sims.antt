-- A simulation between two frames.
use Rattle.std.specs.Prelude.{◌≡◌, ℕ, ℤ, Bool, List, [], length, All, if◌then◌else◌}
use Rattle.space3.specs.declared.vectors.V3.{V3}
use Rattle.space3.specs.Vectors.{Within}
use Rattle.surface_mesh.specs.declared.ranges.TheConstants.{FARTHEST_BEFORE}
use Rattle.surface_mesh.specs.declared.setup.Setup.{Setup}
use Rattle.surface_mesh.specs.Setup.{IsSetup}
use Rattle.surface_mesh.specs.Sturdy.{IsSturdy}
use Rattle.line_search.specs.declared.step.Step.{Step}
use Rattle.line_search.specs.Poses.{IsPose}
use Rattle.line_search.specs.declared.end.FrameEnd.{FrameEnd}
use Rattle.frame_driver.specs.Frames.{IsFrame, last_after}
use Rattle.frame_driver.specs.Paths.{FrameGoesDown, FrameHolds, IsSafeFrame, first_before}

-- the bodies, the tolerance and budget of each frame and whether its steps are kept, the places now, those at the start
-- of the last frame, and the steps of that frame where they are kept
pub record SimState : Type 0 where
  pub setup : Setup
  pub tol : ℤ
  pub budget : ℕ
  pub keep : Bool
  pub places : List V3
  pub before : List V3
  pub notes : List Step

abbrev pub state_of : Setup → (tol : ℤ) (budget : ℕ) (keep : Bool) (places before : List V3) (notes : List Step) → SimState
state_of setup tol budget keep places before notes = record {
  setup = setup;
  tol = tol;
  budget = budget;
  keep = keep;
  places = places;
  before = before;
  notes = notes;
}

-- the start of a path
abbrev pub start_of : Setup → (tol : ℤ) (budget : ℕ) (keep : Bool) → SimState
start_of setup tol budget keep = state_of setup tol budget keep setup.mesh.places (first_before setup) []

-- what a simulation keeps
pub record IsSim (sim : SimState) : Type 0 where
  pub built : IsSetup sim.setup
  pub sturdy : IsSturdy sim.setup
  pub pose : IsPose sim.setup sim.places
  pub each_before : length sim.before ≡ length sim.setup.mesh.numbers
  pub near : All (Within FARTHEST_BEFORE) sim.before

-- one frame with this end led from the old state to the new one
pub record Advances (end : FrameEnd) (old new : SimState) : Type 0 where
  pub steps : List Step
  pub frame : IsFrame old.setup old.tol old.budget old.places old.before (record { steps = steps; end = end })
  pub places : new.places ≡ last_after old.places steps
  pub before : new.before ≡ old.places
  pub setup : new.setup ≡ old.setup
  pub tol : new.tol ≡ old.tol
  pub budget : new.budget ≡ old.budget
  pub keep : new.keep ≡ old.keep
  pub notes : new.notes ≡ (if old.keep then steps else [])
  -- at every fraction of every step no pair meets and each volume is positive
  pub safe : IsSafeFrame old.setup old.places (record { steps = steps; end = end })
  -- every step is that of Newton's direction, else of Jacobi's, and lowers the potential of the frame
  pub downhill : FrameGoesDown old.setup (old.places, old.before) (record { steps = steps; end = end })
  -- no step moves a fixed node
  pub held : FrameHolds old.setup old.places (record { steps = steps; end = end })
