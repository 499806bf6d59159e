use Rattle.std.proofs.Common.{rules, ◌≡◌, w64, to_z, of_z}
use Rattle.ipc_top.specs.Calls.Jobs.{job_of}
use Rattle.ipc_top.proofs.MotionsShown.{shown_none, shown_nothing, shown_from_start}
use Rattle.ipc_top.proofs.motion.show_path.Goals as goal

pub returns-then-job-eq0 : goal.returns-then-job-eq0
returns-then-job-eq0 g c = λ frames are. shown_none (job_of c.args.job.now c.args.setup.numbers) c.args.setup frames _ are.count c.if-job-eq0.true

pub returns-in_err-sim : goal.returns-in_err-sim
returns-in_err-sim g c = λ frames are. shown_nothing (job_of c.args.job.now c.args.setup.numbers) c.args.setup frames _ _ are.count c.if-job-eq0.false c.from_residual.ensures.1

pub returns : goal.returns
returns g c = λ frames are.
    let tol : to_z w64 (of_z w64 c.args.job.now.tol) ≡ c.args.job.now.tol = search rules in
    shown_from_start (λ s. job_of c.args.job.now s.numbers) c.args.setup _ _ c.in_ok-sim.sim frames _ c.in_ok-sim.ensures tol are c.show_frames.ensures
