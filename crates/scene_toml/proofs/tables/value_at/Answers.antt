use Rattle.toml.proofs.Views.{table_get}
use Rattle.scene_toml.proofs.Lookups.{found_value, absent_value}
use Rattle.scene_toml.proofs.tables.value_at.Goals as goal

pub returns-clause-found : goal.returns-clause-found
returns-clause-found c =
    found_value c.get.result _ (table_get c.get.result c.args.name.now c.args.table.now.entries c.get.ensures.value)

pub returns-clause-absent : goal.returns-clause-absent
returns-clause-absent c =
    absent_value c.get.result _ (table_get c.get.result c.args.name.now c.args.table.now.entries c.get.ensures.value)
