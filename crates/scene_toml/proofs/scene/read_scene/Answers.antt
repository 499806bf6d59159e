use Rattle.std.proofs.Common.{rules, sym, ap, subst}
use Rattle.scene_toml.specs.Gives.{Gives}
use Rattle.scene_toml.specs.Scenes.{scene_of_table}
use Rattle.scene_toml.proofs.InRange.{given_in_range}
use Rattle.scene_toml.proofs.Parsed.{table_of-read, table_of-refused}
use Rattle.scene_toml.proofs.scene.read_scene.Goals as goal
use Rattle.scene_toml.proofs.scene.read_scene.Goals.{then-is_memory, else-is_memory}

pub returns-in-Ok-clause-scene : goal.returns-in-Ok-clause-scene
returns-in-Ok-clause-scene c =
    let table = table_of-read c.args.bytes.now _ c.in-Ok.ensures.ok.0 c.in-Ok.ensures.ok.1 in
    subst (λ t. Gives c.scene_of_table.result (scene_of_table t)) (sym table) c.scene_of_table.ensures

pub returns-after-is_memory-clause-scene : goal.returns-after-is_memory-clause-scene
returns-after-is_memory-clause-scene c =
    elim c.if-is_memory.branch [
      | then-is_memory w ↦ rw w.result-is tt
      | else-is_memory w ↦
          let none = table_of-refused c.args.bytes.now (c.in-Err.ensures.refused (search rules)) in
          rw w.result-is (ap scene_of_table none)
    ]

pub returns-in-Ok-clause-in_range : goal.returns-in-Ok-clause-in_range
returns-in-Ok-clause-in_range c =
    let table = table_of-read c.args.bytes.now _ c.in-Ok.ensures.ok.0 c.in-Ok.ensures.ok.1 in
    given_in_range c.args.bytes.now c.scene_of_table.result (subst (λ t. Gives c.scene_of_table.result (scene_of_table t)) (sym table) c.scene_of_table.ensures)
