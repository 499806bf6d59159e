use Rattle.std.proofs.Common.{◌++◌, ◌∷◌}
use Rattle.report_text.specs.declared.line.Line.TheVariants as lines
use Rattle.ipc_top.specs.Acts.{Say}
use Rattle.ipc_top.specs.Moves.{frame_put, trace_put, sum_said}
use Rattle.ipc_top.specs.Calls.Jobs.{job_of}
use Rattle.ipc_top.proofs.ActsDone.{does_then, stops_then}
use Rattle.ipc_top.proofs.frame_acts.show_acts.Goals as goal

pub returns-in_err-put_files : goal.returns-in_err-put_files
returns-in_err-put_files g c =
    let sim = c.args.sim.now in
    let job = job_of c.args.job.now sim.setup.numbers in
    stops_then (frame_put job sim.setup c.args.number sim.places ++ trace_put job sim.setup c.args.number sim.notes c.args.end) (Say (lines.Frame c.args.number c.args.end) ∷ sum_said job sim.places) _
    c.from_residual.ensures.1 c.in_err-put_files.ensures

pub returns : goal.returns
returns g c =
    let sim = c.args.sim.now in
    let job = job_of c.args.job.now sim.setup.numbers in
    does_then (frame_put job sim.setup c.args.number sim.places ++ trace_put job sim.setup c.args.number sim.notes c.args.end) (Say (lines.Frame c.args.number c.args.end) ∷ sum_said job sim.places) _ _ _ _
    c.in_ok-put_files.ensures (rw (← c.places.ensures.value) (c.say_frame.ensures (g.S.Shelf.state c.put_files.new.shelf) sim.setup.numbers))
