-- Where a list of frames leads, and what of a path that is cut in two.
use Rattle.std.proofs.Common.{◌≡◌, ℕ, ℤ, List, [], ◌∷◌, ◌++◌, refl, sym, subst}
use Rattle.std.specs.List.{fold}
use Rattle.std.proofs.lemmas.List.Sums.{fold-append}
use Rattle.list_laws.specs.Chains.{Follow}
use Rattle.list_laws.proofs.Chains.{Follow-append, Follow-split}
use Rattle.space3.specs.declared.vectors.V3.{V3}
use Rattle.surface_mesh.specs.declared.setup.Setup.{Setup}
use Rattle.frame_driver.specs.Frames.{Frame, IsFrame, last_after}
use Rattle.frame_driver.specs.Paths.{FramesAreSafe, FramesFrom, IsSafeFrame, after_frame, last_places}

-- the last places of these frames, which begin at the places `now`
abbrev pub now_after : (now : List V3) → List Frame → List V3
now_after now frames = fold last_places now frames

-- the places at the start of the last of them
abbrev pub before_after : (now before : List V3) → List Frame → List V3
before_after now before [] = before
before_after now before (frame ∷ frames) = before_after (last_after now frame.steps) now frames

-- both together
reached : (now before : List V3) (frames : List Frame) → fold after_frame (now, before) frames ≡ (now_after now frames, before_after now before frames)
reached now before [] = refl
reached now before (frame ∷ frames) = reached (last_after now frame.steps) now frames

-- ---- one list of frames after another
pub now_after-append : (now : List V3) (frames more : List Frame) → now_after now (frames ++ more) ≡ now_after (now_after now frames) more
now_after-append now frames more = fold-append last_places now frames more

pub before_after-append : (now before : List V3) (frames more : List Frame) → before_after now before (frames ++ more) ≡ before_after (now_after now frames) (before_after now before frames) more
before_after-append now before [] more = refl
before_after-append now before (frame ∷ frames) more = before_after-append (last_after now frame.steps) now frames more

-- a frame from where the one before it led to
abbrev IsFrameFrom : Setup → ℤ → ℕ → List V3 × List V3 → Frame → Type 0
IsFrameFrom setup tol budget start frame = IsFrame setup tol budget start.0 start.1 frame

pub frames_join : (setup : Setup) (tol : ℤ) (budget : ℕ) (now before : List V3) (frames more : List Frame) → FramesFrom setup tol budget now before frames → FramesFrom setup tol budget (now_after now frames) (before_after now before frames) more → FramesFrom setup tol budget now before (frames ++ more)
frames_join setup tol budget now before frames more h k =
    Follow-append after_frame (IsFrameFrom setup tol budget) (now, before) frames more h
    (subst (λ (start : List V3 × List V3). Follow after_frame (IsFrameFrom setup tol budget) start more) (sym (reached now before frames)) k)

pub frames_split : (setup : Setup) (tol : ℤ) (budget : ℕ) (now before : List V3) (frames more : List Frame) → FramesFrom setup tol budget now before (frames ++ more) → FramesFrom setup tol budget now before frames × FramesFrom setup tol budget (now_after now frames) (before_after now before frames) more
frames_split setup tol budget now before frames more h =
    let parts = Follow-split after_frame (IsFrameFrom setup tol budget) (now, before) frames more h in
    (parts.0, subst (λ (start : List V3 × List V3). Follow after_frame (IsFrameFrom setup tol budget) start more) (reached now before frames) parts.1)

pub safe_join : (setup : Setup) (now : List V3) (frames more : List Frame) → FramesAreSafe setup now frames → FramesAreSafe setup (now_after now frames) more → FramesAreSafe setup now (frames ++ more)
safe_join setup now frames more h k = Follow-append last_places (IsSafeFrame setup) now frames more h k

-- ---- one frame more
pub frames_push : (setup : Setup) (tol : ℤ) (budget : ℕ) (now before : List V3) (frames : List Frame) (frame : Frame) → FramesFrom setup tol budget now before frames → IsFrame setup tol budget (now_after now frames) (before_after now before frames) frame → FramesFrom setup tol budget now before (frames ++ frame ∷ [])
frames_push setup tol budget now before frames frame h k = frames_join setup tol budget now before frames (frame ∷ []) h (k, tt)

pub now_after-push : (now : List V3) (frames : List Frame) (frame : Frame) → now_after now (frames ++ frame ∷ []) ≡ last_after (now_after now frames) frame.steps
now_after-push now frames frame = now_after-append now frames (frame ∷ [])

pub before_after-push : (now before : List V3) (frames : List Frame) (frame : Frame) → before_after now before (frames ++ frame ∷ []) ≡ now_after now frames
before_after-push now before frames frame = before_after-append now before frames (frame ∷ [])
