use Rattle.std.proofs.Common.{◌≡◌, take, map}
use Rattle.std.specs.Prelude.{All}
use Rattle.std.specs.List.{zip}
use Rattle.space3.specs.Vectors.{Within, difference}
use Rattle.surface_mesh.specs.declared.ranges.TheConstants.{FARTHEST_BEFORE}
use Rattle.frame_driver.proofs.before.places_before.Given as goal

abbrev pub invariant-loop-node : goal.invariant-loop-node
invariant-loop-node l = record {
  value : l.list.items ≡ map (λ node. difference node.0 node.1) (zip (take l.node l.places) (take l.node l.velocity));
  near : All (Within FARTHEST_BEFORE) l.list.items;
}
