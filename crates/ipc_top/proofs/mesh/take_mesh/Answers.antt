use Rattle.ipc_top.specs.declared.mesh.TheConstants.{MESH_LIMIT}
use Rattle.ipc_top.specs.Calls.Jobs.{job_of}
use Rattle.ipc_top.specs.Meshes.{MeshMeans}
use Rattle.ipc_top.proofs.Outcomes.{some_mesh, mesh_texts}
use Rattle.ipc_top.proofs.Taking.{takes_end, not_taken, taken_looked}
use Rattle.ipc_top.proofs.mesh.take_mesh.Goals as goal

pub returns-in_err-bytes-clause-takes : goal.returns-in_err-bytes-clause-takes
returns-in_err-bytes-clause-takes g c =
    takes_end c.args.job.now.mesh.now MESH_LIMIT (MeshMeans (job_of c.args.job.now c.args.numbers)) _ _ c.from_residual.ensures.1
    (not_taken c.args.job.now.mesh.now MESH_LIMIT (MeshMeans (job_of c.args.job.now c.args.numbers)) _ (some_mesh (job_of c.args.job.now c.args.numbers)) (mesh_texts (job_of c.args.job.now c.args.numbers)) c.in_err-bytes.ensures)

pub returns-clause-takes : goal.returns-clause-takes
returns-clause-takes g c =
    taken_looked c.args.job.now.mesh.now MESH_LIMIT (MeshMeans (job_of c.args.job.now c.args.numbers)) c.in_ok-bytes.bytes.items _ _ (mesh_texts (job_of c.args.job.now c.args.numbers)) c.deref.ensures.value c.in_ok-bytes.ensures (c.bodies_of_bytes.ensures.looks (g.S.Shelf.state c.take_file.new.shelf))
