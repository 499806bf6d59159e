-- The acts that show how bodies move.
use Rattle.std.specs.Prelude.{◌≡◌, ◌++◌, ◌+◌, ◌-◌, ℕ, Bool, true, false, List, [], ◌∷◌, codes, decimal, length, replicate, if◌then◌else◌, Some}
use Rattle.std.specs.List.{fold, list_all}
use Rattle.std.specs.Option.{option_map_or}
use Rattle.space3.specs.declared.vectors.V3.{V3}
use Rattle.space3.specs.Vectors.{origin, sum_of}
use Rattle.surface_mesh.specs.declared.setup.Setup.{Setup}
use Rattle.line_search.specs.declared.end.FrameEnd.{FrameEnd}
use Rattle.line_search.specs.declared.end.FrameEnd.TheVariants as ends
use Rattle.line_search.specs.declared.step.Step.{Step}
use Rattle.frame_driver.specs.Frames.{Frame, last_after}
use Rattle.frame_driver.specs.Paths.{FramesFrom, first_before}
use Rattle.msh_text.specs.Frame.{frame_text}
use Rattle.report_text.specs.declared.line.Line.{Line}
use Rattle.report_text.specs.declared.line.Line.TheVariants as lines
use Rattle.report_text.specs.Traces.{trace_text}
use Rattle.ipc_top.specs.Acts.{Act, Put, Say}
use Rattle.ipc_top.specs.Jobs.{Job}
use Rattle.ipc_top.specs.Motions.{Start, Motion}
use Rattle.ipc_top.specs.Plans.{Plan}

-- a number of at most four digits, with zeros before it
abbrev pub four_digits : ℕ → List ℕ
four_digits n = replicate (4 - length (decimal n)) 48 ++ decimal n

-- a file of a frame
abbrev pub numbered_name : (begin : List ℕ) → ℕ → (ending : List ℕ) → List ℕ
numbered_name begin frame ending = begin ++ codes "_" ++ four_digits frame ++ ending

-- the file of a frame's places
abbrev pub frame_name : (out : List ℕ) → ℕ → List ℕ
frame_name out frame = numbered_name out frame (codes ".msh")

-- the file of a frame's trace
abbrev pub trace_name : (trace : List ℕ) → ℕ → List ℕ
trace_name trace frame = numbered_name trace frame (codes ".txt")

-- the places of a frame go to a file, where frames do
abbrev pub frame_put : Job → Setup → ℕ → (places : List V3) → List Act
frame_put job setup number places =
    option_map_or (λ out. Put (frame_name out number) (frame_text setup.mesh places job.digits) ∷ []) job.out []

-- the trace of a frame goes to a file, where traces do
abbrev pub trace_put : Job → Setup → ℕ → List Step → FrameEnd → List Act
trace_put job setup number steps end =
    option_map_or (λ trace. Put (trace_name trace number) (trace_text setup.mesh number steps end) ∷ []) job.trace []

-- the sums of all coordinates of these places
abbrev pub sum_line : List V3 → Line
sum_line places =
    let sum = fold sum_of origin places in
    lines.Sum sum.x sum.y sum.z

-- the sums of the places of a frame are said, where frames go to no file
abbrev pub sum_said : Job → (places : List V3) → List Act
sum_said job places = option_map_or (λ out. []) job.out (Say (sum_line places) ∷ [])

-- the start at the mesh's places: frame 0 is written, and said
abbrev pub first_start : Job → Setup → Start
first_start job setup = record {
  number = 0;
  places = setup.mesh.places;
  before = first_before setup;
  shown = frame_put job setup 0 setup.mesh.places ++ Say lines.Start ∷ [];
}

-- the acts that show a frame with this number, these last places and steps, and this end: its files, its line, and its sums
abbrev pub acts_showing : Job → Setup → ℕ → (places : List V3) → List Step → FrameEnd → List Act
acts_showing job setup number places steps end =
    (frame_put job setup number places ++ trace_put job setup number steps end)
    ++ Say (lines.Frame number end) ∷ sum_said job places

-- the acts of the frame of this number, which begins at the places `now`
abbrev pub acts_of_frame : Job → Setup → ℕ → (now : List V3) → Frame → List Act
acts_of_frame job setup number now frame =
    acts_showing job setup number (last_after now frame.steps) frame.steps frame.end

-- the acts of frames in order, where the first has this number and begins at the places `now`
abbrev pub acts_of_frames : Job → Setup → ℕ → (now : List V3) → List Frame → List Act
acts_of_frames job setup number now [] = []
acts_of_frames job setup number now (frame ∷ frames) =
    acts_of_frame job setup number now frame
    ++ acts_of_frames job setup (number + 1) (last_after now frame.steps) frames

abbrev pub is_converged : FrameEnd → Bool
is_converged (ends.Converged steps) = true
is_converged end = false

-- 0 where all frames converged, else 1
abbrev pub frames_status : List Frame → ℕ
frames_status frames = if list_all (λ frame. is_converged frame.end) frames then 0 else 1

-- a mesh is accepted, the start is shown, and then each frame that follows
abbrev pub motion_plan : Job → Motion → Plan
motion_plan job motion =
    let mesh = motion.setup.mesh in
    let start = motion.start in
    record {
      acts =
          Say (lines.Accepted (length mesh.numbers) (length mesh.tets))
          ∷ start.shown
          ++ acts_of_frames job motion.setup (start.number + 1) start.places motion.frames;
      status = frames_status motion.frames;
      motion = Some motion;
    }

-- these are the frames of a job from a start: its path, of as many frames as it asks for
pub record AreFrames (job : Job) (setup : Setup) (start : Start) (frames : List Frame) : Type 0 where
  pub count : length frames ≡ job.frames
  pub path : FramesFrom setup job.tol job.budget start.places start.before frames

-- the plan shows how the bodies of a job move from a start
pub record Moves (job : Job) (setup : Setup) (start : Start) (plan : Plan) : Type 0 where
  pub frames : List Frame
  pub are : AreFrames job setup start frames
  pub same : plan ≡ motion_plan job (record { setup = setup; start = start; frames = frames })
