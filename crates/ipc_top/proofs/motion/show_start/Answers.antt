use Rattle.std.proofs.Common.{[], ◌∷◌}
use Rattle.report_text.specs.declared.line.Line.TheVariants as lines
use Rattle.ipc_top.specs.Acts.{Say}
use Rattle.ipc_top.specs.Moves.{first_start}
use Rattle.ipc_top.specs.Calls.Jobs.{job_of}
use Rattle.ipc_top.proofs.ActsDone.{does_then, does_same, stops_then}
use Rattle.ipc_top.proofs.motion.show_start.Goals as goal

pub returns-in_err-say : goal.returns-in_err-say
returns-in_err-say g c =
    let setup = c.args.setup.now in
    let shown = (first_start (job_of c.args.job.now setup.numbers) setup).shown in
    does_same _ _ _ _ _ (λ i. Say (c.accepted_line.ensures i) ∷ shown)
    (stops_then (Say c.accepted_line.result ∷ []) shown _ c.from_residual.ensures.1 (c.in_err-say.ensures (g.S.Shelf.state c.args.shelf.now)))

pub returns : goal.returns
returns g c =
    let setup = c.args.setup.now in
    let shown = (first_start (job_of c.args.job.now setup.numbers) setup).shown in
    does_same _ _ _ _ _ (λ i. Say (c.accepted_line.ensures i) ∷ shown)
    (does_then (Say c.accepted_line.result ∷ []) shown _ _ _ _ (c.in_ok-say.ensures (g.S.Shelf.state c.args.shelf.now)) c.show_first.ensures)
