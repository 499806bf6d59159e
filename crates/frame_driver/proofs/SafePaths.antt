-- Frames and paths are safe.
use Rattle.std.proofs.Common.{ℕ, ℤ, List, [], ◌∷◌}
use Rattle.list_laws.proofs.Chains.{Follow-weaker}
use Rattle.space3.specs.declared.vectors.V3.{V3}
use Rattle.safe_motion.proofs.Ends.{safe_end}
use Rattle.surface_mesh.specs.declared.setup.Setup.{Setup}
use Rattle.surface_mesh.specs.Safety.{IsSafeAt, IsSafeStep, corner_nodes, part_pairs}
use Rattle.potential_sum.specs.Terms.{FrameTerms, terms_of}
use Rattle.line_search.specs.declared.step.Step.{Step}
use Rattle.frame_driver.specs.Frames.{Frame, IsFrame, GoesOn, last_after, places_after}
use Rattle.frame_driver.specs.Paths.{FramesAreSafe, FramesFrom, IsSafeFrame, StepsAreSafe}
use Rattle.frame_driver.proofs.StepsAt.{step_is_safe}

-- the last places of safe steps are safe
last_is_safe : (setup : Setup) (now : List V3) (steps : List Step) → IsSafeAt setup now → StepsAreSafe setup now steps → IsSafeAt setup (last_after now steps)
last_is_safe setup now [] h k = h
last_is_safe setup now (step ∷ steps) h k = last_is_safe setup step.places steps (safe_end (part_pairs setup) (corner_nodes setup) now step.places k.0) k.1

-- a frame from safe places is safe
pub frame_is_safe : (setup : Setup) (tol : ℤ) (budget : ℕ) (now before : List V3) (frame : Frame) → IsSafeAt setup now → IsFrame setup tol budget now before frame → IsSafeFrame setup now frame
frame_is_safe setup tol budget now before frame start h =
    let terms : FrameTerms = terms_of setup now before in
    let steps : StepsAreSafe setup now frame.steps =
    Follow-weaker places_after
    (GoesOn setup tol terms) (λ x step. IsSafeStep setup x step.places)
    (λ x step s. step_is_safe setup terms x step s.step_at) now frame.steps h.steps in
    record { on_steps = steps; at_end = last_is_safe setup now frame.steps start steps }

-- and so is each of a path
pub path_is_safe : (setup : Setup) (tol : ℤ) (budget : ℕ) (now before : List V3) (frames : List Frame) → IsSafeAt setup now → FramesFrom setup tol budget now before frames → FramesAreSafe setup now frames
path_is_safe setup tol budget now before [] start h = tt
path_is_safe setup tol budget now before (frame ∷ frames) start h =
    let first : IsSafeFrame setup now frame = frame_is_safe setup tol budget now before frame start h.0 in
    (first, path_is_safe setup tol budget (last_after now frame.steps) now frames first.at_end h.1)
