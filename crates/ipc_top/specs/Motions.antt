-- Bodies on their way: where they start, and the frames that follow.
use Rattle.std.specs.Prelude.{ℕ, List}
use Rattle.space3.specs.declared.vectors.V3.{V3}
use Rattle.surface_mesh.specs.declared.setup.Setup.{Setup}
use Rattle.surface_mesh.specs.Safety.{IsSafeAt}
use Rattle.frame_driver.specs.Frames.{Frame}
use Rattle.frame_driver.specs.Paths.{FramesAreSafe, FramesGoDown, FramesHold}
use Rattle.ipc_top.specs.Acts.{Act}

-- where bodies start: the number of the frame that stands there, its places, the places before it, and the acts that
-- show it
pub record Start : Type 0 where
  pub number : ℕ
  pub places : List V3
  pub before : List V3
  pub shown : List Act

-- bodies, their start, and the frames that follow it
pub record Motion : Type 0 where
  pub setup : Setup
  pub start : Start
  pub frames : List Frame

-- The promise. At the start, at every fraction of every step of every frame, and at the end of each frame: no vertex or
-- edge of the surface meets an edge or a triangle of it with which it shares no vertex, and every tetrahedron's volume
-- is positive. Each step is the first accepted halving of Newton's direction, or where that has none of Jacobi's, and
-- lowers the potential of its frame. Fixed nodes stay where they are.
pub record IsSafeThroughout (motion : Motion) : Type 0 where
  pub at_start : IsSafeAt motion.setup motion.start.places
  pub on_frames : FramesAreSafe motion.setup motion.start.places motion.frames
  pub downhill : FramesGoDown motion.setup motion.start.places motion.start.before motion.frames
  pub held : FramesHold motion.setup motion.start.places motion.frames
