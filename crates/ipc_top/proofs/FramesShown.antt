-- Frames one after another: those that were shown, and those to come.
use Rattle.std.proofs.Common.{◌≡◌, ℕ, suc, ◌+◌, ◌≤◌, ◌<◌, Bool, true, List, [], ◌∷◌, ◌++◌, length, ◌&&◌, refl, ap, sym, subst, ◌∙◌, append_assoc, append-nil, length-append, arith, Option, Some, None, option_map, Result, Ok, Err, IsErrAnd}
use Rattle.std.specs.List.{list_all}
use Rattle.std.specs.Option.{is_some, option_map_or}
use Rattle.std.proofs.lemmas.List.Folds.{list_all-append}
use Rattle.std.proofs.Math.Bool.{and-true}
use Rattle.space3.specs.declared.vectors.V3.{V3}
use Rattle.surface_mesh.specs.declared.setup.Setup.{Setup}
use Rattle.surface_mesh.specs.declared.materials.Numbers.{Numbers}
use Rattle.line_search.specs.declared.end.FrameEnd.{FrameEnd}
use Rattle.line_search.specs.declared.step.Step.{Step}
use Rattle.report_text.specs.declared.line.Line.TheVariants as lines
use Rattle.report_text.specs.Traces.{trace_text}
use Rattle.frame_driver.specs.Frames.{Frame, last_after}
use Rattle.frame_driver.specs.Sims.{SimState, Advances}
use Rattle.frame_driver.specs.Calls.Descents.{notes_of}
use Rattle.frame_driver.proofs.Reached.{now_after}
use Rattle.frame_driver.proofs.SimPaths.{FramesOf, advance_passes, state_after, state_after-append}
use Rattle.ipc_top.specs.declared.acts.Stop.{Stop}
use Rattle.ipc_top.specs.Acts.{Act, Put, Say, World, Did, Stops, IsDue}
use Rattle.ipc_top.specs.Jobs.{Job}
use Rattle.ipc_top.specs.Moves.{acts_of_frame, acts_of_frames, acts_showing, frame_put, is_converged, sum_said, trace_name, trace_put}
use Rattle.ipc_top.specs.Calls.Frames.{AreNext, ShowsFrames}
use Rattle.ipc_top.proofs.ActsDone.{did_after, stops_after, stops_before, due_before, due_in, did_nothing}

-- all of these frames converged
abbrev pub all_converged : List Frame → Bool
all_converged frames = list_all (λ frame. is_converged frame.end) frames

-- ---- lists of frames
-- the acts of some frames and then of others
acts_of_frames-append : (job : Job) (setup : Setup) (number : ℕ) (now : List V3) (first rest : List Frame) → acts_of_frames job setup number now (first ++ rest) ≡ acts_of_frames job setup number now first ++ acts_of_frames job setup (number + length first) (now_after now first) rest
acts_of_frames-append job setup number now [] rest = let e : number ≡ number + 0 = omega arith in ap (λ (n : ℕ). acts_of_frames job setup n now rest) e
acts_of_frames-append job setup number now (frame ∷ first) rest =
    let turn = acts_of_frame job setup number now frame in
    let later = last_after now frame.steps in
    let e : number + 1 + length first ≡ number + suc (length first) = omega arith in
    ap (λ (acts : List Act). turn ++ acts)
    (acts_of_frames-append job setup (number + 1) later first rest
    ∙ ap (λ (n : ℕ). acts_of_frames job setup (number + 1) later first ++ acts_of_frames job setup n (now_after later first) rest) e)
    ∙ sym (append_assoc turn (acts_of_frames job setup (number + 1) later first) (acts_of_frames job setup (number + suc (length first)) (now_after later first) rest))

acts_of_one : (job : Job) (setup : Setup) (number : ℕ) (now : List V3) (frame : Frame) → acts_of_frames job setup number now (frame ∷ []) ≡ acts_of_frame job setup number now frame
acts_of_one job setup number now frame = append-nil (acts_of_frame job setup number now frame)

length_more : (first : List Frame) (frame : Frame) → length (first ++ frame ∷ []) ≡ length first + 1
length_more [] frame = refl
length_more (x ∷ first) frame = let e = length_more first frame in omega arith

all_more : (first : List Frame) (frame : Frame) → all_converged (first ++ frame ∷ []) ≡ (all_converged first && is_converged frame.end)
all_more first frame =
    list_all-append (λ (f : Frame). is_converged f.end) first (frame ∷ []) ∙ ap (λ (b : Bool). all_converged first && b) (and-true (is_converged frame.end))

-- the same, where a simulation stands between them
acts_split : (held : Numbers → Job) (start sim : SimState) (number : ℕ) (first rest : List Frame) → sim ≡ state_after start first → number ≡ 1 + length first
    → acts_of_frames (held start.setup.numbers) start.setup 1 start.places (first ++ rest) ≡ acts_of_frames (held start.setup.numbers) start.setup 1 start.places first ++ acts_of_frames (held sim.setup.numbers) sim.setup number sim.places rest
acts_split held start sim number first rest stands numbered =
    let job = held start.setup.numbers in
    acts_of_frames-append job start.setup 1 start.places first rest
    ∙ (λ i. acts_of_frames job start.setup 1 start.places first ++ acts_of_frames (held (sym stands i).setup.numbers) (sym stands i).setup (sym numbered i) (sym stands i).places rest)

-- some frames begin with one
record Begins (frames : List Frame) : Type 0 where
  frame : Frame
  later : List Frame
  is : frames ≡ frame ∷ later

more_to_come : (first rest : List Frame) (number : ℕ) → number ≡ 1 + length first → number ≤ length (first ++ rest) → Begins rest
more_to_come first [] number e l = absurd (let h = length-append first [] in omega arith)
more_to_come first (frame ∷ later) number e l = record { frame = frame; later = later; is = refl }

none_to_come : (first rest : List Frame) (number : ℕ) → number ≡ 1 + length first → length (first ++ rest) < number → rest ≡ []
none_to_come first [] number e l = refl
none_to_come first (frame ∷ later) number e l = absurd (let h = length-append first (frame ∷ later) in omega arith)

-- ---- one list of frames, partly shown
-- A simulation that began at the state `start` has gone through the first of these frames, and stands at `sim`
-- before the frame of this number. Their acts were done, and `all` says whether they all converged.
pub record SoFar (held : Numbers → Job) (start sim : SimState) (number : ℕ) (all : Bool) (frames : List Frame) (old now : World) : Type 0 where
  pub first : List Frame
  pub rest : List Frame
  pub list : frames ≡ first ++ rest
  pub numbered : number ≡ 1 + length first
  pub stands : sim ≡ state_after start first
  pub to_come : FramesOf sim rest
  pub did : Did (acts_of_frames (held start.setup.numbers) start.setup 1 start.places first) old now
  pub converged : all ≡ all_converged first

-- no frame was shown
pub none_shown : (held : Numbers → Job) (start : SimState) (frames : List Frame) (w : World) → FramesOf start frames → SoFar held start start 1 true frames w w
none_shown held start frames w path = record { first = []; rest = frames; list = refl; numbered = refl; stands = refl; to_come = path; did = did_nothing w; converged = refl }

-- one frame more
pub frame_more : (held : Numbers → Job) (start sim next : SimState) (number : ℕ) (all told : Bool) (frames : List Frame) (end : FrameEnd) {old mid new : World} → number ≤ length frames → SoFar held start sim number all frames old mid → Advances end sim next → told ≡ is_converged end → ((frame : Frame) → AreNext sim 1 (frame ∷ []) → Did (acts_of_frame (held sim.setup.numbers) sim.setup number sim.places frame) mid new) → SoFar held start next (number + 1) (all && told) frames old new
frame_more held start sim next number all told frames end {old} {mid} {new} l g h tells did =
    let job = held start.setup.numbers in
    let b = more_to_come g.first g.rest number g.numbered (subst (λ (fs : List Frame). number ≤ length fs) g.list l) in
    let frame = b.frame in
    let to_come : FramesOf sim (frame ∷ b.later) = subst (λ (fs : List Frame). FramesOf sim fs) b.is g.to_come in
    let passes = advance_passes end sim next frame b.later h to_come in
    let longer = length_more g.first frame in
    let numbered = g.numbered in
    let turn = acts_of_frame (held sim.setup.numbers) sim.setup number sim.places frame in
    let list = acts_split held start sim number g.first (frame ∷ []) g.stands g.numbered ∙ ap (λ (acts : List Act). acts_of_frames job start.setup 1 start.places g.first ++ acts) (acts_of_one (held sim.setup.numbers) sim.setup number sim.places frame) in
    record {
      first = g.first ++ frame ∷ [];
      rest = b.later;
      list = g.list ∙ ap (λ (fs : List Frame). g.first ++ fs) b.is ∙ sym (append_assoc g.first (frame ∷ []) b.later);
      numbered = omega arith;
      stands = passes.stands ∙ ap (λ (s : SimState). state_after s (frame ∷ [])) g.stands ∙ sym (state_after-append start g.first (frame ∷ []));
      to_come = passes.to_come;
      did = subst (λ (acts : List Act). Did acts old new) (sym list) (did_after (acts_of_frames job start.setup 1 start.places g.first) turn g.did (did frame (record { many = refl; path = (to_come.0, tt) })));
      converged = (λ i. g.converged i && (tells ∙ ap is_converged passes.same_end) i) ∙ sym (all_more g.first frame);
    }

-- the next frame was stopped
pub stopped_at : (held : Numbers → Job) (start sim : SimState) (number : ℕ) (all : Bool) (frames : List Frame) (stop : Stop) {old mid new : World} → number ≤ length frames → SoFar held start sim number all frames old mid → ((frame : Frame) → AreNext sim 1 (frame ∷ []) → Stops stop (acts_of_frame (held sim.setup.numbers) sim.setup number sim.places frame) mid new) → Stops stop (acts_of_frames (held start.setup.numbers) start.setup 1 start.places frames) old new
stopped_at held start sim number all frames stop {old} {mid} {new} l g stopped =
    let job = held start.setup.numbers in
    let b = more_to_come g.first g.rest number g.numbered (subst (λ (fs : List Frame). number ≤ length fs) g.list l) in
    let frame = b.frame in
    let to_come : FramesOf sim (frame ∷ b.later) = subst (λ (fs : List Frame). FramesOf sim fs) b.is g.to_come in
    let list : frames ≡ g.first ++ frame ∷ b.later = g.list ∙ ap (λ (fs : List Frame). g.first ++ fs) b.is in
    let acts = ap (λ (fs : List Frame). acts_of_frames job start.setup 1 start.places fs) list ∙ acts_split held start sim number g.first (frame ∷ b.later) g.stands g.numbered in
    subst (λ (xs : List Act). Stops stop xs old new) (sym acts)
    (stops_after (acts_of_frames job start.setup 1 start.places g.first) (acts_of_frames (held sim.setup.numbers) sim.setup number sim.places (frame ∷ b.later)) g.did
    (stops_before (acts_of_frame (held sim.setup.numbers) sim.setup number sim.places frame) (acts_of_frames (held sim.setup.numbers) sim.setup (number + 1) (last_after sim.places frame.steps) b.later) (stopped frame (record { many = refl; path = (to_come.0, tt) }))))

-- all frames were shown
pub record AllShown (job : Job) (start : SimState) (all : Bool) (frames : List Frame) (old new : World) : Type 0 where
  pub did : Did (acts_of_frames job start.setup 1 start.places frames) old new
  pub converged : all ≡ all_converged frames

pub all_shown : (held : Numbers → Job) (start sim : SimState) (number : ℕ) (all : Bool) (frames : List Frame) {old new : World} → length frames < number → SoFar held start sim number all frames old new → AllShown (held start.setup.numbers) start all frames old new
all_shown held start sim number all frames {old} {new} l g =
    let job = held start.setup.numbers in
    let none = none_to_come g.first g.rest number g.numbered (subst (λ (fs : List Frame). length fs < number) g.list l) in
    let same : frames ≡ g.first = g.list ∙ ap (λ (fs : List Frame). g.first ++ fs) none ∙ append-nil g.first in
    record {
      did = subst (λ (fs : List Frame). Did (acts_of_frames job start.setup 1 start.places fs) old new) (sym same) g.did;
      converged = g.converged ∙ ap all_converged (sym same);
    }

-- what a `?` hands on
pub shows_stopped : {stop : Stop} {old new : World} (job : Job) (setup : Setup) (now : List V3) (frames : List Frame) (result : Result Bool Stop) → IsErrAnd result (λ e. e ≡ stop) → Stops stop (acts_of_frames job setup 1 now frames) old new → ShowsFrames job setup now frames result old new
shows_stopped job setup now frames (Ok all) is stops = absurd is
shows_stopped {old = old} {new = new} job setup now frames (Err e) is stops =
    record { does = subst (λ (s : Stop). Stops s (acts_of_frames job setup 1 now frames) old new) (sym is) stops; converged = tt }

-- ---- one frame

-- a trace goes to a file with the steps that are kept, or to none
trace_of_notes : (job : Job) (setup : Setup) (number : ℕ) (keep : Bool) (steps : List Step) (end : FrameEnd) → keep ≡ is_some job.trace → trace_put job setup number (notes_of keep steps) end ≡ trace_put job setup number steps end
trace_of_notes job setup number keep steps end kept = by job.trace kept
  where
    put : List Step → Option (List ℕ) → List Act
    put noted trace = option_map_or (λ name. Put (trace_name name number) (trace_text setup.mesh number noted end) ∷ []) trace []

    by : (trace : Option (List ℕ)) → keep ≡ is_some trace → put (notes_of keep steps) trace ≡ put steps trace
    by None e = refl
    by (Some name) e = ap (λ (k : Bool). put (notes_of k steps) (Some name)) e

-- the acts that show where a simulation stands after a frame are those of the frame
pub acts_are : (held : Numbers → Job) (old new : SimState) (number : ℕ) (end : FrameEnd) (frame : Frame) → Advances end old new → AreNext old 1 (frame ∷ []) → old.keep ≡ is_some (held old.setup.numbers).trace
    → acts_showing (held new.setup.numbers) new.setup number new.places new.notes end ≡ acts_of_frame (held old.setup.numbers) old.setup number old.places frame
acts_are held old new number end frame h next kept =
    let passes = advance_passes end old new frame [] h next.path in
    let job = held old.setup.numbers in
    let last = last_after old.places frame.steps in
    (λ i. acts_showing (held (passes.stands i).setup.numbers) (passes.stands i).setup number (passes.stands i).places (passes.stands i).notes (passes.same_end i))
    ∙ ap (λ (acts : List Act). (frame_put job old.setup number last ++ acts) ++ Say (lines.Frame number frame.end) ∷ sum_said job last) (trace_of_notes job old.setup number old.keep frame.steps frame.end kept)

-- a name is given, as the code holds it
pub is_given : {X Y : Type 0} (f : X → Y) (name : Option X) → is_some (option_map f name) ≡ is_some name
is_given f None = refl
is_given f (Some x) = refl

-- the acts of a frame are due
pub frame_due : (job : Job) (setup : Setup) (number : ℕ) (now : List V3) (frame : Frame) → IsDue (acts_of_frame job setup number now frame)
frame_due job setup number now frame =
    let last = last_after now frame.steps in
    due_in (frame_put job setup number last ++ trace_put job setup number frame.steps frame.end) (Say (lines.Frame number frame.end)) (sum_said job last)

-- ---- frames that are to come

-- where there are some, an act is due
pub frames_due : (job : Job) (setup : Setup) (number : ℕ) (now : List V3) (frames : List Frame) (count : ℕ) → length frames ≡ count → ¬ (count ≡ 0) → IsDue (acts_of_frames job setup number now frames)
frames_due job setup number now [] count many some = absurd (some (sym many))
frames_due job setup number now (frame ∷ frames) count many some = due_before (acts_of_frames job setup (number + 1) (last_after now frame.steps) frames) (frame_due job setup number now frame)

-- where there are none, none is due
pub no_frames : (frames : List Frame) (count : ℕ) → length frames ≡ count → count ≡ 0 → frames ≡ []
no_frames [] count many none = refl
no_frames (frame ∷ frames) count many none = absurd (omega arith)
