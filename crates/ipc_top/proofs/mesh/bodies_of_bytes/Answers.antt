use Rattle.std.proofs.Common.{refl}
use Rattle.ipc_top.specs.Calls.Jobs.{job_of}
use Rattle.ipc_top.specs.Meshes.{MeshMakes, MeshMeans, NoMesh, OfMesh, mesh_refused_plan}
use Rattle.ipc_top.proofs.Outcomes.{some_mesh, mesh_texts}
use Rattle.ipc_top.proofs.Taking.{looked_as, looked_nothing, looked_refused}
use Rattle.ipc_top.proofs.mesh.bodies_of_bytes.Goals as goal

pub returns-in-Ok-clause-looks : goal.returns-in-Ok-clause-looks
returns-in-Ok-clause-looks g c = λ s.
    looked_as (MeshMakes c.args.numbers c.in-Ok.mesh) (MeshMeans (job_of c.args.job.now c.args.numbers) c.args.bytes.now) _
    (λ o makes. OfMesh c.in-Ok.mesh c.in-Ok.ensures.accepted makes) (c.bodies_of_mesh.ensures.looks s)

pub returns-in-Err-Memory-clause-looks : goal.returns-in-Err-Memory-clause-looks
returns-in-Err-Memory-clause-looks g c = λ s.
    let job = job_of c.args.job.now c.args.numbers in
    let found = some_mesh job c.args.bytes.now in
    looked_nothing (MeshMeans job c.args.bytes.now) found.0 _ found.1 (mesh_texts job c.args.bytes.now found.0 found.1)

pub returns-clause-looks : goal.returns-clause-looks
returns-clause-looks g c = λ s.
    let fault = c.in-Err-Text.fault in
    let first = rw c.in-Err-Text.field-0-is at c.in-Err-Text.ensures.refused in
    looked_refused _ _ (MeshMeans (job_of c.args.job.now c.args.numbers) c.args.bytes.now) (mesh_refused_plan fault) _ (NoMesh fault first refl) (c.refuse.ensures s)
