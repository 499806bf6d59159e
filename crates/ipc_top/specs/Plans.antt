-- Plans: what is to be done, and how it is to end.
use Rattle.std.specs.Prelude.{ℕ, List, [], ◌∷◌, ◌++◌, Option, None}
use Rattle.report_text.specs.declared.line.Line.{Line}
use Rattle.ipc_top.specs.Acts.{Act, Say}
use Rattle.ipc_top.specs.Motions.{Motion}

-- a list of acts, the status that is owed when all are done, and the motion that the acts show, if they show one
pub record Plan : Type 0 where
  pub acts : List Act
  pub status : ℕ
  pub motion : Option Motion

-- a plan that shows no motion
abbrev pub plan_of : List Act → ℕ → Plan
plan_of acts status = record { acts = acts; status = status; motion = None }

-- a refusal: a line is said, and this status is owed
abbrev pub refusal : Line → ℕ → Plan
refusal line status = plan_of (Say line ∷ []) status

-- these acts, and then that plan
abbrev pub then_plan : List Act → Plan → Plan
then_plan acts plan = record { acts = acts ++ plan.acts; status = plan.status; motion = plan.motion }
