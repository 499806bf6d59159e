use Rattle.std.proofs.Common.{[], ◌∷◌}
use Rattle.report_text.specs.declared.line.Line.TheVariants as lines
use Rattle.ipc_top.specs.Acts.{Say}
use Rattle.ipc_top.specs.Moves.{frame_put}
use Rattle.ipc_top.specs.Calls.Jobs.{job_of}
use Rattle.ipc_top.proofs.ActsDone.{does_then, stops_then}
use Rattle.ipc_top.proofs.motion.show_first.Goals as goal

pub returns-in_err-put_frame : goal.returns-in_err-put_frame
returns-in_err-put_frame g c =
    let setup = c.args.setup.now in
    stops_then (frame_put (job_of c.args.job.now setup.numbers) setup 0 setup.mesh.places) (Say lines.Start ∷ []) _ c.from_residual.ensures.1 c.in_err-put_frame.ensures

pub returns : goal.returns
returns g c =
    let setup = c.args.setup.now in
    does_then (frame_put (job_of c.args.job.now setup.numbers) setup 0 setup.mesh.places) (Say lines.Start ∷ []) _ _ _ _ c.in_ok-put_frame.ensures (c.say.ensures (g.S.Shelf.state c.put_frame.new.shelf))
