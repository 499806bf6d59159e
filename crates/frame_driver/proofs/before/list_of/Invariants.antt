use Rattle.std.proofs.Common.{◌≡◌, take}
use Rattle.std.specs.Prelude.{All}
use Rattle.space3.specs.Vectors.{Within}
use Rattle.surface_mesh.specs.declared.ranges.TheConstants.{FARTHEST_BEFORE}
use Rattle.frame_driver.proofs.before.list_of.Given as goal

abbrev pub invariant-loop-node : goal.invariant-loop-node
invariant-loop-node l = record {
  same : l.list.items ≡ take l.node l.places;
  near : All (Within FARTHEST_BEFORE) l.list.items;
}
