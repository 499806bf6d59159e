-- A simulation goes along its path.
use Rattle.std.proofs.Common.{◌≡◌, Bool, List, [], ◌∷◌, ◌++◌, refl, sym, ◌∙◌, subst}
use Rattle.line_search.specs.declared.end.FrameEnd.{FrameEnd}
use Rattle.frame_driver.specs.Frames.{Frame, IsFrame}
use Rattle.frame_driver.specs.Paths.{FramesFrom}
use Rattle.line_search.specs.declared.step.Step.{Step}
use Rattle.frame_driver.specs.Sims.{SimState, Advances}
use Rattle.frame_driver.specs.Calls.Descents.{notes_of}
use Rattle.frame_driver.proofs.OnePath.{one_frame}
use Rattle.frame_driver.proofs.Reached.{now_after, before_after, now_after-append, before_after-append, frames_push}

-- the frames follow one another from where a simulation stands
abbrev pub FramesOf : SimState → List Frame → Type 0
FramesOf sim frames = FramesFrom sim.setup sim.tol sim.budget sim.places sim.before frames

-- the next frame of a simulation
abbrev pub IsNext : SimState → Frame → Type 0
IsNext sim frame = IsFrame sim.setup sim.tol sim.budget sim.places sim.before frame

-- the notes after these frames: those of the last one
abbrev pub notes_after : (keep : Bool) (notes : List Step) → List Frame → List Step
notes_after keep notes [] = notes
notes_after keep notes (frame ∷ frames) = notes_after keep (notes_of keep frame.steps) frames

notes_after-append : (keep : Bool) (notes : List Step) (frames more : List Frame) → notes_after keep notes (frames ++ more) ≡ notes_after keep (notes_after keep notes frames) more
notes_after-append keep notes [] more = refl
notes_after-append keep notes (frame ∷ frames) more = notes_after-append keep (notes_of keep frame.steps) frames more

-- where a simulation stands after these frames
abbrev pub state_after : SimState → List Frame → SimState
state_after sim frames = record {
  setup = sim.setup;
  tol = sim.tol;
  budget = sim.budget;
  keep = sim.keep;
  places = now_after sim.places frames;
  before = before_after sim.places sim.before frames;
  notes = notes_after sim.keep sim.notes frames;
}

pub state_after-append : (sim : SimState) (frames more : List Frame) → state_after sim (frames ++ more) ≡ state_after (state_after sim frames) more
state_after-append sim frames more = λ i. record {
  setup = sim.setup;
  tol = sim.tol;
  budget = sim.budget;
  keep = sim.keep;
  places = now_after-append sim.places frames more i;
  before = before_after-append sim.places sim.before frames more i;
  notes = notes_after-append sim.keep sim.notes frames more i;
}

-- ---- one frame
-- the frame of an advance
abbrev pub frame_of : (end : FrameEnd) (old new : SimState) → Advances end old new → Frame
frame_of end old new h = record { steps = h.steps; end = end }

pub advance_state : (end : FrameEnd) (old new : SimState) (h : Advances end old new) → new ≡ state_after old (frame_of end old new h ∷ [])
advance_state end old new h =
    λ i. record {
      setup = h.setup i;
      tol = h.tol i;
      budget = h.budget i;
      keep = h.keep i;
      places = h.places i;
      before = h.before i;
      notes = h.notes i;
    }

-- an advance passes the first of the frames to come, and the others are still to come
pub record Passes (end : FrameEnd) (old new : SimState) (frame : Frame) (rest : List Frame) : Type 0 where
  pub same_end : end ≡ frame.end
  pub stands : new ≡ state_after old (frame ∷ [])
  pub to_come : FramesOf new rest

pub advance_passes : (end : FrameEnd) (old new : SimState) (frame : Frame) (rest : List Frame) → Advances end old new → FramesOf old (frame ∷ rest) → Passes end old new frame rest
advance_passes end old new frame rest h k =
    let same : frame_of end old new h ≡ frame = one_frame old.setup old.tol old.budget old.places old.before (frame_of end old new h) frame h.frame k.0 in
    let stands : new ≡ state_after old (frame ∷ []) = advance_state end old new h ∙ (λ i. state_after old (same i ∷ [])) in
    record { same_end = λ i. (same i).end; stands = stands; to_come = subst (λ (s : SimState). FramesOf s rest) (sym stands) k.1 }

-- ---- all frames so far
-- a simulation that began at the state `start` has gone through these frames
pub record HasGone (start : SimState) (frames : List Frame) (sim : SimState) : Type 0 where
  pub path : FramesOf start frames
  pub stands : sim ≡ state_after start frames

pub gone_none : (start : SimState) → HasGone start [] start
gone_none start = record { path = tt; stands = refl }

-- an advance adds its frame
pub gone_more : (start old new : SimState) (frames : List Frame) (end : FrameEnd) → HasGone start frames old → (h : Advances end old new) → HasGone start (frames ++ frame_of end old new h ∷ []) new
gone_more start old new frames end g h =
    let frame = frame_of end old new h in
    let next : IsNext (state_after start frames) frame = subst (λ (s : SimState). IsNext s frame) g.stands h.frame in
    record {
      path = frames_push start.setup start.tol start.budget start.places start.before frames frame g.path next;
      stands = advance_state end old new h ∙ (λ i. state_after (g.stands i) (frame ∷ [])) ∙ sym (state_after-append start frames (frame ∷ []));
    }
