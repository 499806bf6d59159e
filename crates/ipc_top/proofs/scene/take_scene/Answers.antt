use Rattle.ipc_top.specs.CallsFor.{SceneMeans}
use Rattle.ipc_top.specs.declared.scene.TheConstants.{SCENE_LIMIT}
use Rattle.ipc_top.proofs.Outcomes.{some_scene, scene_texts}
use Rattle.ipc_top.proofs.Taking.{takes_end, not_taken, taken_looked}
use Rattle.ipc_top.proofs.scene.take_scene.Goals as goal

pub returns-in_err-bytes-clause-takes : goal.returns-in_err-bytes-clause-takes
returns-in_err-bytes-clause-takes g c =
    takes_end c.args.name.now SCENE_LIMIT SceneMeans _ _ c.from_residual.ensures.1 (not_taken c.args.name.now SCENE_LIMIT SceneMeans _ some_scene scene_texts c.in_err-bytes.ensures)

pub returns-clause-takes : goal.returns-clause-takes
returns-clause-takes g c =
    taken_looked c.args.name.now SCENE_LIMIT SceneMeans c.in_ok-bytes.bytes.items _ _ scene_texts c.deref.ensures.value c.in_ok-bytes.ensures (c.scene_of_bytes.ensures.looks (g.S.Shelf.state c.take_file.new.shelf))
