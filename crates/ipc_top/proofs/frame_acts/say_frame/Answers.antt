use Rattle.std.proofs.Common.{[], ◌∷◌}
use Rattle.report_text.specs.declared.line.Line.TheVariants as lines
use Rattle.ipc_top.specs.Acts.{Say}
use Rattle.ipc_top.specs.Moves.{sum_said}
use Rattle.ipc_top.specs.Calls.Jobs.{job_of}
use Rattle.ipc_top.proofs.ActsDone.{does_then, stops_then}
use Rattle.ipc_top.proofs.frame_acts.say_frame.Goals as goal

pub returns-in_err-say : goal.returns-in_err-say
returns-in_err-say g c = λ s numbers.
    stops_then (Say (lines.Frame c.args.number c.args.end) ∷ []) (sum_said (job_of c.args.job.now numbers) c.args.places.now) _ c.from_residual.ensures.1 (c.in_err-say.ensures s)

pub returns : goal.returns
returns g c = λ s numbers.
    does_then (Say (lines.Frame c.args.number c.args.end) ∷ []) (sum_said (job_of c.args.job.now numbers) c.args.places.now) _ _ _ _ (c.in_ok-say.ensures s) (c.say_sum.ensures s numbers)
