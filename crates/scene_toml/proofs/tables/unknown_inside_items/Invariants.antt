use Rattle.std.proofs.Common.{◌≡◌, drop}
use Rattle.toml.specs.View.{items_view}
use Rattle.scene_toml.specs.Tables.{unknown_inside_items}
use Rattle.scene_toml.proofs.tables.unknown_inside_items.Given as goal

abbrev pub invariant-loop-index : goal.invariant-loop-index
invariant-loop-index l = unknown_inside_items 0 (items_view l.items) ≡ unknown_inside_items l.index (items_view (drop l.index l.items))
