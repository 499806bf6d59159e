use Rattle.std.proofs.Common.{◌≡◌, map, take}
use Rattle.scene_toml.specs.Parts.{with_base}
use Rattle.scene_toml.proofs.scene.part_list.Given as goal

abbrev pub invariant-loop-part : goal.invariant-loop-part
invariant-loop-part l = l.list.items ≡ map (with_base l.base) (take l.part-index l.parts)
