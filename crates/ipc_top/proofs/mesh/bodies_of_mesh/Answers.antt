use Rattle.surface_mesh.specs.Setup.{setup_of}
use Rattle.ipc_top.specs.Meshes.{Bodies, MeshMakes, SetupMeans}
use Rattle.ipc_top.proofs.Taking.{looked_as}
use Rattle.ipc_top.proofs.mesh.bodies_of_mesh.Goals as goal

pub returns-in-Ok-clause-looks : goal.returns-in-Ok-clause-looks
returns-in-Ok-clause-looks g c = λ s.
    looked_as (SetupMeans (setup_of c.args.mesh c.in-Ok.surface c.args.numbers)) (MeshMakes c.args.numbers c.args.mesh) _
    (λ o m. Bodies c.in-Ok.surface (record { conforming = c.in-Ok.ensures.conforming; is_surface = c.in-Ok.ensures.surface; few = c.in-Ok.ensures.lists.few }) m)
    (c.bodies_with_surface.ensures.looks s)
