use Rattle.std.proofs.Common.{◌≡◌, ◌∙◌, sym, Ok}
use Rattle.std.specs.Option.{is_some}
use Rattle.ipc_top.specs.Calls.Jobs.{job_of}
use Rattle.ipc_top.proofs.ActsDone.{lacks_some_memory, does_stopped, does_same}
use Rattle.ipc_top.proofs.FramesShown.{acts_are, frame_due, is_given}
use Rattle.ipc_top.proofs.frames.show_frame.Goals as goal

pub returns-in_err-end-clause-does : goal.returns-in_err-end-clause-does
returns-in_err-end-clause-does g c = λ frame next. lacks_some_memory _ _ _ c.from_residual.ensures.1 (frame_due (job_of c.args.job.now c.args.sim.now.setup.numbers) c.args.sim.now.setup c.args.number c.args.sim.now.places frame)

pub returns-in_err-show_acts-clause-does : goal.returns-in_err-show_acts-clause-does
returns-in_err-show_acts-clause-does g c = λ frame next.
    let kept : c.args.sim.now.keep ≡ is_some (job_of c.args.job.now c.args.sim.now.setup.numbers).trace = c.requires ∙ sym (is_given _ c.args.job.now.trace) in
    does_same _ _ _ _ _ (acts_are (job_of c.args.job.now) _ _ c.args.number _ frame c.in_ok-end.ensures.frame next kept)
    (does_stopped _ _ c.from_residual-in_err-show_acts.ensures.1 c.in_err-show_acts.ensures)

pub returns-clause-does : goal.returns-clause-does
returns-clause-does g c = λ frame next.
    let kept : c.args.sim.now.keep ≡ is_some (job_of c.args.job.now c.args.sim.now.setup.numbers).trace = c.requires ∙ sym (is_given _ c.args.job.now.trace) in
    does_same _ _ (Ok c.in_ok-end.end) _ _ (acts_are (job_of c.args.job.now) _ _ c.args.number _ frame c.in_ok-end.ensures.frame next kept) c.in_ok-show_acts.ensures
