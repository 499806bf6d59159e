-- Each step of a path goes down the potential of its frame.
use Rattle.std.proofs.Common.{ℕ, ℤ, List}
use Rattle.list_laws.proofs.Chains.{Follow-weaker}
use Rattle.space3.specs.declared.vectors.V3.{V3}
use Rattle.surface_mesh.specs.declared.setup.Setup.{Setup}
use Rattle.potential_sum.specs.Terms.{FrameTerms, terms_of}
use Rattle.frame_driver.specs.Frames.{Frame, GoesOn, IsFrame, places_after}
use Rattle.frame_driver.specs.Paths.{FrameGoesDown, FramesFrom, FramesGoDown, GoesDown, after_frame}
use Rattle.frame_driver.proofs.StepsAt.{step_goes_down}

pub frame_goes_down : (setup : Setup) (tol : ℤ) (budget : ℕ) (now before : List V3) (frame : Frame) → IsFrame setup tol budget now before frame → FrameGoesDown setup (now, before) frame
frame_goes_down setup tol budget now before frame h =
    let terms : FrameTerms = terms_of setup now before in
    Follow-weaker places_after (GoesOn setup tol terms) (GoesDown setup terms)
    (λ x step s. record { step_at = s.step_at; lower = step_goes_down setup terms x step s.step_at }) now frame.steps h.steps

pub path_goes_down : (setup : Setup) (tol : ℤ) (budget : ℕ) (now before : List V3) (frames : List Frame) → FramesFrom setup tol budget now before frames → FramesGoDown setup now before frames
path_goes_down setup tol budget now before frames h =
    Follow-weaker after_frame (λ (start : List V3 × List V3) (frame : Frame). IsFrame setup tol budget start.0 start.1 frame) (FrameGoesDown setup)
    (λ start frame f. frame_goes_down setup tol budget start.0 start.1 frame f) (now, before) frames h
