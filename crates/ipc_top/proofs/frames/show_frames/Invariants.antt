use Rattle.std.proofs.Common.{◌≡◌, List}
use Rattle.std.specs.Option.{is_some}
use Rattle.frame_driver.specs.Frames.{Frame}
use Rattle.ipc_top.specs.Acts.{world}
use Rattle.ipc_top.specs.Calls.Frames.{AreNext}
use Rattle.ipc_top.specs.Calls.Jobs.{job_of}
use Rattle.ipc_top.proofs.FramesShown.{SoFar}
use Rattle.ipc_top.proofs.frames.show_frames.Given as goal

abbrev pub invariant-loop-number : goal.invariant-loop-number
invariant-loop-number g l = record {
  kept : l.sim.keep ≡ is_some l.job.trace;
  shown : (frames : List Frame) → AreNext l.fn.sim l.fn.job.frames frames
      → SoFar (job_of l.job) l.fn.sim l.sim l.number l.all frames
      (world (g.S.Shelf.state l.fn.shelf) (g.C.Sink.state l.fn.console)) (world (g.S.Shelf.state l.shelf) (g.C.Sink.state l.console));
}
