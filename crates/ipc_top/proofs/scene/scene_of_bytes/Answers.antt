use Rattle.std.proofs.Common.{ap, sym}
use Rattle.report_text.specs.declared.line.Line.TheVariants as lines
use Rattle.ipc_top.specs.CallsFor.{SceneMeans, scene_outcome}
use Rattle.ipc_top.specs.Plans.{refusal}
use Rattle.ipc_top.proofs.Outcomes.{some_scene, scene_texts}
use Rattle.ipc_top.proofs.Taking.{looked_well, looked_nothing, looked_refused}
use Rattle.ipc_top.proofs.scene.scene_of_bytes.Goals as goal

pub returns-in-Ok-clause-looks : goal.returns-in-Ok-clause-looks
returns-in-Ok-clause-looks g c = λ s. looked_well (SceneMeans c.args.bytes.now) _ _ (ap scene_outcome (sym c.in-Ok.ensures.scene))

pub returns-in-Err-Memory-clause-looks : goal.returns-in-Err-Memory-clause-looks
returns-in-Err-Memory-clause-looks g c = λ s.
    let found = some_scene c.args.bytes.now in
    looked_nothing (SceneMeans c.args.bytes.now) found.0 _ found.1 (scene_texts c.args.bytes.now found.0 found.1)

pub returns-in-Err-Scene-clause-looks : goal.returns-in-Err-Scene-clause-looks
returns-in-Err-Scene-clause-looks g c = λ s.
    let refused = rw c.in-Err-Scene.field-0-is at c.in-Err-Scene.ensures.scene in
    looked_refused _ _ (SceneMeans c.args.bytes.now) (refusal (lines.Scene c.in-Err-Scene.err) 5) _ (ap scene_outcome (sym refused)) (c.refuse.ensures s)
