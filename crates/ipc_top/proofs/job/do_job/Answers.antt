use Rattle.ipc_top.specs.declared.mesh.TheConstants.{MESH_LIMIT}
use Rattle.ipc_top.specs.Meshes.{MeshMeans}
use Rattle.ipc_top.specs.Moves.{first_start}
use Rattle.ipc_top.specs.Calls.Jobs.{job_of}
use Rattle.ipc_top.proofs.Causes.{motion_not_ten, ten_taken}
use Rattle.ipc_top.proofs.Obeying.{job_ended, job_moved}
use Rattle.ipc_top.proofs.job.do_job.Goals as goal

pub returns-in_err-setup-clause-obeys : goal.returns-in_err-setup-clause-obeys
returns-in_err-setup-clause-obeys g c = job_ended (job_of c.args.job.now c.args.numbers) _ _ c.from_residual.ensures.1 c.in_err-setup.ensures.takes

pub returns-in_err-setup-clause-too_long : goal.returns-in_err-setup-clause-too_long
returns-in_err-setup-clause-too_long g c = ten_taken c.args.job.now.mesh.now MESH_LIMIT (MeshMeans (job_of c.args.job.now c.args.numbers)) _ _ c.from_residual.ensures.1 c.in_err-setup.ensures.takes

pub returns-clause-obeys : goal.returns-clause-obeys
returns-clause-obeys g c = job_moved (job_of c.args.job.now c.args.numbers) c.in_ok-setup.setup _ c.in_ok-setup.ensures.takes c.show_motion.ensures

pub returns-clause-too_long : goal.returns-clause-too_long
returns-clause-too_long g c = λ e.
    let job = job_of c.args.job.now c.in_ok-setup.setup.numbers in
    absurd (motion_not_ten job c.in_ok-setup.setup (first_start job c.in_ok-setup.setup) _ c.show_motion.ensures e)
