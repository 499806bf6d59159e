-- How frames are shown, as a call answers.
use Rattle.std.specs.Prelude.{◌≡◌, ℕ, Bool, List, length, Result, IfOk}
use Rattle.std.specs.List.{list_all}
use Rattle.space3.specs.declared.vectors.V3.{V3}
use Rattle.surface_mesh.specs.declared.setup.Setup.{Setup}
use Rattle.frame_driver.specs.Frames.{Frame}
use Rattle.frame_driver.specs.Paths.{FramesFrom}
use Rattle.frame_driver.specs.Sims.{SimState}
use Rattle.ipc_top.specs.declared.acts.Stop.{Stop}
use Rattle.ipc_top.specs.Acts.{World}
use Rattle.ipc_top.specs.Jobs.{Job}
use Rattle.ipc_top.specs.Moves.{acts_of_frame, acts_of_frames, is_converged}
use Rattle.ipc_top.specs.Calls.Acts.{Does}

-- these are the next frames of a simulation, so many
pub record AreNext (sim : SimState) (count : ℕ) (frames : List Frame) : Type 0 where
  pub many : length frames ≡ count
  pub path : FramesFrom sim.setup sim.tol sim.budget sim.places sim.before frames

-- the acts of the next frame, of this number, were done, or were stopped
abbrev pub ShowsFrame : {T : Type 0} → Job → SimState → ℕ → Frame → Result T Stop → World → World → Type 0
ShowsFrame job sim number frame = Does (acts_of_frame job sim.setup number sim.places frame)

-- the acts of these frames, numbered from 1, were done, and it was told whether all converged; or they were stopped
pub record ShowsFrames (job : Job) (setup : Setup) (now : List V3) (frames : List Frame) (result : Result Bool Stop) (old new : World) : Type 0 where
  pub does : Does (acts_of_frames job setup 1 now frames) result old new
  pub converged : IfOk result (λ all. all ≡ list_all (λ frame. is_converged frame.end) frames)
