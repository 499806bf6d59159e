use Rattle.ipc_top.specs.Calls.Jobs.{job_of}
use Rattle.ipc_top.proofs.MotionsShown.{start_stopped, path_stopped, all_moved}
use Rattle.ipc_top.proofs.motion.show_motion.Goals as goal

pub returns-in_err-show_start : goal.returns-in_err-show_start
returns-in_err-show_start g c = start_stopped (job_of c.args.job.now c.args.setup.numbers) c.args.setup _ c.from_residual.ensures.1 c.in_err-show_start.ensures

pub returns-in_err-all : goal.returns-in_err-all
returns-in_err-all g c = path_stopped (job_of c.args.job.now c.args.setup.numbers) c.args.setup _ c.from_residual-in_err-all.ensures.1 c.in_ok-show_start.ensures c.in_err-all.ensures

pub returns : goal.returns
returns g c = all_moved (job_of c.args.job.now c.args.setup.numbers) c.args.setup c.in_ok-all.all _ c.frames_status.ensures c.in_ok-show_start.ensures c.in_ok-all.ensures
