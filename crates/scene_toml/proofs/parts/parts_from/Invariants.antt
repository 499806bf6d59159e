use Rattle.std.proofs.Common.{◌≡◌, [], drop}
use Rattle.toml.specs.View.{items_view}
use Rattle.scene_toml.specs.Parts.{parts_from}
use Rattle.scene_toml.proofs.parts.parts_from.Given as goal

abbrev pub invariant-loop-item : goal.invariant-loop-item
invariant-loop-item l = parts_from [] (items_view l.items) ≡ parts_from l.list.items (items_view (drop l.item-index l.items))
