use Rattle.std.proofs.Common.{Some, None}
use Rattle.surface_mesh.specs.declared.setup.Setup.{Setup}
use Rattle.surface_mesh.specs.Setup.{setup_of}
use Rattle.ipc_top.specs.Meshes.{SetupMeans, defect_plan}
use Rattle.ipc_top.proofs.Outcomes.{found_in, setup_texts, some_setup}
use Rattle.ipc_top.proofs.Taking.{looked_well, looked_nothing, looked_refused}
use Rattle.ipc_top.proofs.mesh.bodies_with_surface.Goals as goal

pub returns-in_default-clause-looks : goal.returns-in_default-clause-looks
returns-in_default-clause-looks g c = λ s.
    let setup : Setup = setup_of c.args.mesh c.args.surface c.args.numbers in
    let found = some_setup setup in
    looked_nothing (SetupMeans setup) found.0 _ found.1 (setup_texts setup found.0 found.1)

pub returns-in_default-first_defect-clause-looks : goal.returns-in_default-first_defect-clause-looks
returns-in_default-first_defect-clause-looks g c = λ s.
    let setup : Setup = setup_of c.args.mesh c.args.surface c.args.numbers in
    let found = some_setup setup in
    looked_nothing (SetupMeans setup) found.0 _ found.1 (setup_texts setup found.0 found.1)

pub returns-in-Some-clause-looks : goal.returns-in-Some-clause-looks
returns-in-Some-clause-looks g c = λ s.
    let setup : Setup = setup_of c.args.mesh c.args.surface c.args.numbers in
    let first = rw c.in-Some.is at c.in-Ok-first_defect.ensures.first in
    looked_refused _ _ (SetupMeans setup) (defect_plan c.in-Ok.setup c.in-Some.defect) _
    (found_in setup c.in-Ok.setup (Some c.in-Some.defect) c.in-Ok.ensures.built first) (c.refuse_defect.ensures s)

pub returns-in-None-clause-looks : goal.returns-in-None-clause-looks
returns-in-None-clause-looks g c = λ s.
    let setup : Setup = setup_of c.args.mesh c.args.surface c.args.numbers in
    let first = rw c.in-None.is at c.in-Ok-first_defect.ensures.first in
    looked_well (SetupMeans setup) _ _ (found_in setup c.in-Ok.setup None c.in-Ok.ensures.built first)
