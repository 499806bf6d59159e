use Rattle.std.proofs.Common.{◌≤◌, ◌<◌, ◌+◌, ◌∙◌, length, arith}
use Rattle.ipc_top.specs.Calls.Jobs.{job_of}
use Rattle.ipc_top.proofs.FramesShown.{none_shown, frame_more, stopped_at, shows_stopped, all_shown}
use Rattle.ipc_top.proofs.frames.show_frames.Goals as goal

pub loop-number-init : goal.loop-number-init
loop-number-init g c = record { kept = c.requires; shown = λ frames next. none_shown (job_of c.args.job.now) _ frames _ next.path }

pub returns-in_err-end : goal.returns-in_err-end
returns-in_err-end g c = λ frames next.
    let within : c.loop-number.number ≤ length frames = omega arith in
    let held = job_of c.args.job.now in
    shows_stopped (held c.args.sim.now.setup.numbers) _ _ frames _ c.from_residual.ensures.1 (stopped_at held _ _ _ _ frames _ within (c.loop-number.invariant.shown frames next) c.in_err-end.ensures.does)

pub loop-number-preserved : goal.loop-number-preserved
loop-number-preserved g c = record {
  kept = c.in_ok-end.ensures.advances.keep ∙ c.loop-number.invariant.kept;
  shown = λ frames next.
      let within : c.loop-number.number ≤ length frames = omega arith in
      frame_more (job_of c.args.job.now) _ _ _ _ _ _ frames _ within (c.loop-number.invariant.shown frames next) c.in_ok-end.ensures.advances c.is_converged-all.ensures c.in_ok-end.ensures.does;
}

pub returns-in_ok-end : goal.returns-in_ok-end
returns-in_ok-end g c = λ frames next.
    let within : c.loop-number.number ≤ length frames = omega arith in
    let past : length frames < c.loop-number.number + 1 = omega arith in
    let shown = all_shown (job_of c.args.job.now) _ _ _ _ frames past (frame_more (job_of c.args.job.now) _ _ _ _ _ _ frames _ within (c.loop-number.invariant.shown frames next) c.in_ok-end.ensures.advances c.is_converged-all.ensures c.in_ok-end.ensures.does) in
    record { does = shown.did; converged = shown.converged }
