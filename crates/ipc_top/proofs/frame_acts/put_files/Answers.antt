use Rattle.std.proofs.Common.{◌++◌}
use Rattle.ipc_top.specs.Moves.{frame_put, trace_put}
use Rattle.ipc_top.specs.Calls.Jobs.{job_of}
use Rattle.ipc_top.proofs.ActsDone.{does_same, does_then, stops_then}
use Rattle.ipc_top.proofs.frame_acts.put_files.Goals as goal

pub returns-in_err-put_frame : goal.returns-in_err-put_frame
returns-in_err-put_frame g c =
    let sim = c.args.sim.now in
    let job = job_of c.args.job.now sim.setup.numbers in
    stops_then (frame_put job sim.setup c.args.number sim.places) (trace_put job sim.setup c.args.number sim.notes c.args.end) _
    c.from_residual.ensures.1 (rw (← c.setup-setup.ensures.value, ← c.places.ensures.value) c.in_err-put_frame.ensures)

pub returns : goal.returns
returns g c =
    let setup = c.setup-setup.ensures.value in
    let held = job_of c.args.job.now in
    let lent = c.setup-setup.result.now in
    let job = held lent.numbers in
    does_same _ _ _ _ _
    (λ i. frame_put (held (setup i).numbers) (setup i) c.args.number (c.places.ensures.value i) ++ trace_put (held (setup i).numbers) (setup i) c.args.number (c.notes.ensures i) c.args.end)
    (does_then (frame_put job lent c.args.number c.places.result.now) (trace_put job lent c.args.number c.notes.result.now c.args.end) _ _ _ _ c.in_ok-put_frame.ensures c.put_trace.ensures)
