use Rattle.std.proofs.Common.{rules, ◌≡◌, w64, to_z, of_z, inl, inr, ap, Some}
use Rattle.ipc_top.specs.declared.scene.TheConstants.{SCENE_LIMIT}
use Rattle.ipc_top.specs.CallsFor.{SceneMeans}
use Rattle.ipc_top.specs.Jobs.{scene_job}
use Rattle.ipc_top.proofs.Causes.{ten_taken}
use Rattle.ipc_top.proofs.Obeying.{scene_ended, scene_done, job_named}
use Rattle.ipc_top.proofs.commands.run.Goals as goal

pub returns-in_err-scene-clause-obeys : goal.returns-in_err-scene-clause-obeys
returns-in_err-scene-clause-obeys g c = scene_ended c.args.name.now _ _ c.from_residual.ensures.1 c.in_err-scene.ensures.takes

pub returns-in_err-scene-clause-too_long : goal.returns-in_err-scene-clause-too_long
returns-in_err-scene-clause-too_long g c = λ e. inl (ten_taken c.args.name.now SCENE_LIMIT SceneMeans _ _ c.from_residual.ensures.1 c.in_err-scene.ensures.takes e)

pub returns-clause-obeys : goal.returns-clause-obeys
returns-clause-obeys g c =
    let scene = c.in_ok-scene.scene in
    let tol : to_z w64 (of_z w64 scene.tol) ≡ scene.tol = search rules in
    scene_done c.args.name.now scene _ c.in_ok-scene.ensures.takes (job_named (scene_job scene) _ _ _ _ _ c.text.ensures (ap Some c.text-2.ensures) c.text_of.ensures tol c.do_job.ensures.obeys)

pub returns-clause-too_long : goal.returns-clause-too_long
returns-clause-too_long g c = λ e. inr (c.do_job.ensures.too_long e)
