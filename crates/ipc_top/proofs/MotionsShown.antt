-- A motion is shown: its start, and then its frames.
use Rattle.std.proofs.Common.{◌≡◌, ◌∙◌, ℕ, ℤ, List, ◌∷◌, length, refl, ap, sym, subst, Bool, true, false, Result, Ok, Err, IsErrAnd}
use Rattle.std.specs.Prelude.{if◌then◌else◌}
use Rattle.surface_mesh.specs.declared.setup.Setup.{Setup}
use Rattle.report_text.specs.declared.line.Line.TheVariants as lines
use Rattle.frame_driver.specs.Frames.{Frame}
use Rattle.frame_driver.specs.Sims.{SimState, start_of}
use Rattle.ipc_top.specs.declared.acts.Stop.{Stop}
use Rattle.ipc_top.specs.declared.acts.Stop.TheVariants as stops
use Rattle.ipc_top.specs.declared.refusals.End.{End}
use Rattle.ipc_top.specs.declared.refusals.End.TheVariants as ends
use Rattle.ipc_top.specs.Acts.{Act, Say, World, Did, Stops}
use Rattle.ipc_top.specs.Ends.{IsPlain}
use Rattle.ipc_top.specs.Jobs.{Job}
use Rattle.ipc_top.specs.Moves.{AreFrames, Moves, first_start, acts_of_frames, motion_plan}
use Rattle.ipc_top.specs.Plans.{Plan}
use Rattle.ipc_top.specs.Calls.Frames.{AreNext, ShowsFrames}
use Rattle.ipc_top.specs.Calls.Plans.{FollowsOne}
use Rattle.ipc_top.proofs.ActsDone.{did_after, did_nothing, stops_after, stops_before, nothing_done}
use Rattle.ipc_top.proofs.FramesShown.{shows_stopped, frames_due, no_frames}
use Rattle.ipc_top.proofs.OnePlan.{some_frames}
use Rattle.ipc_top.proofs.PlansEnded.{follows_end}

-- ---- the frames

-- no frame follows
pub shown_none : (job : Job) (setup : Setup) (frames : List Frame) (w : World) → length frames ≡ job.frames → job.frames ≡ 0 → ShowsFrames job setup setup.mesh.places frames (Ok true) w w
shown_none job setup frames w many none =
    subst (λ (fs : List Frame). ShowsFrames job setup setup.mesh.places fs (Ok true) w w) (sym (no_frames frames job.frames many none)) (record { does = did_nothing w; converged = refl })

-- memory was wanting before the first frame
pub shown_nothing : (job : Job) (setup : Setup) (frames : List Frame) (result : Result Bool Stop) (w : World) → length frames ≡ job.frames → ¬ (job.frames ≡ 0) → IsErrAnd result (λ e. e ≡ stops.Memory) → ShowsFrames job setup setup.mesh.places frames result w w
shown_nothing job setup frames result w many some is =
    shows_stopped job setup setup.mesh.places frames result is (nothing_done (acts_of_frames job setup 1 setup.mesh.places frames) w (frames_due job setup 1 setup.mesh.places frames job.frames many some))

-- the frames of a simulation that stands at the start
pub shown_from_start : {old new : World} (held : Setup → Job) (setup : Setup) (tol : ℤ) (keep : Bool) (sim : SimState) (frames : List Frame) (result : Result Bool Stop) → sim ≡ start_of setup tol (held setup).budget keep → tol ≡ (held setup).tol → AreFrames (held setup) setup (first_start (held setup) setup) frames
    → ((fs : List Frame) → AreNext sim (held setup).frames fs → ShowsFrames (held sim.setup) sim.setup sim.places fs result old new) → ShowsFrames (held setup) setup setup.mesh.places frames result old new
shown_from_start {old} {new} held setup tol keep sim frames result e tol-is are shows =
    let job = held setup in
    let start : sim ≡ start_of setup job.tol job.budget keep = e ∙ ap (λ (t : ℤ). start_of setup t job.budget keep) tol-is in
    subst (λ (s : SimState). ((fs : List Frame) → AreNext s job.frames fs → ShowsFrames (held s.setup) s.setup s.places fs result old new) → ShowsFrames job setup setup.mesh.places frames result old new) (sym start)
    (λ from. from frames (record { many = are.count; path = are.path })) shows

-- ---- the start, and then the frames

-- the acts of the start
abbrev pub start_acts : Job → Setup → List Act
start_acts job setup = Say (lines.Accepted (length setup.mesh.numbers) (length setup.mesh.tets)) ∷ (first_start job setup).shown

-- the plan of these frames
abbrev pub shown_plan : Job → Setup → List Frame → Plan
shown_plan job setup frames = motion_plan job (record { setup = setup; start = first_start job setup; frames = frames })

-- the start was stopped
pub start_stopped : {stop : Stop} {old new : World} (job : Job) (setup : Setup) (result : Result ℕ End) → IsErrAnd result (λ e. e ≡ ends.Stopped stop) → Stops stop (start_acts job setup) old new → FollowsOne (Moves job setup (first_start job setup)) result old new
start_stopped {stop} {old} {new} job setup result is stops =
    let some = some_frames job setup (first_start job setup) in
    let acts = acts_of_frames job setup 1 setup.mesh.places some.0 in
    record { plan = shown_plan job setup some.0; called = record { frames = some.0; are = some.1; same = refl }; follows = follows_end old new (shown_plan job setup some.0) (ends.Stopped stop) result is (stops_before (start_acts job setup) acts stops) }

-- the frames were stopped
pub path_stopped : {stop : Stop} {old mid new : World} (job : Job) (setup : Setup) (result : Result ℕ End) → IsErrAnd result (λ e. e ≡ ends.Stopped stop) → Did (start_acts job setup) old mid
    → ((frames : List Frame) → AreFrames job setup (first_start job setup) frames → ShowsFrames job setup setup.mesh.places frames (Err stop) mid new) → FollowsOne (Moves job setup (first_start job setup)) result old new
path_stopped {stop} {old} {mid} {new} job setup result is did shows =
    let some = some_frames job setup (first_start job setup) in
    let acts = acts_of_frames job setup 1 setup.mesh.places some.0 in
    record { plan = shown_plan job setup some.0; called = record { frames = some.0; are = some.1; same = refl }; follows = follows_end old new (shown_plan job setup some.0) (ends.Stopped stop) result is (stops_after (start_acts job setup) acts did (shows some.0 some.1).does) }

plain : (all : Bool) (status : ℕ) → status ≡ (if all then 0 else 1) → IsPlain status
plain true status e = subst (λ (n : ℕ). IsPlain n) (sym e) refl
plain false status e = subst (λ (n : ℕ). IsPlain n) (sym e) refl

-- all was shown
pub all_moved : {old mid new : World} (job : Job) (setup : Setup) (all : Bool) (status : ℕ) → status ≡ (if all then 0 else 1) → Did (start_acts job setup) old mid
    → ((frames : List Frame) → AreFrames job setup (first_start job setup) frames → ShowsFrames job setup setup.mesh.places frames (Ok all) mid new) → FollowsOne (Moves job setup (first_start job setup)) (Ok status) old new
all_moved {old} {mid} {new} job setup all status e did shows =
    let some = some_frames job setup (first_start job setup) in
    let acts = acts_of_frames job setup 1 setup.mesh.places some.0 in
    let shown = shows some.0 some.1 in
    record {
      plan = shown_plan job setup some.0;
      called = record { frames = some.0; are = some.1; same = refl };
      follows = (plain all status e, record { owed = e ∙ ap (λ (b : Bool). if b then 0 else 1) shown.converged; did = did_after (start_acts job setup) acts did shown.does });
    }
