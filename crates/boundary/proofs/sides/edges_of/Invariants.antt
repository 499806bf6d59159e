use Rattle.std.proofs.Common.{◌≡◌, ◌*◌, length, take}
use Rattle.std.specs.List.{flat_map}
use Rattle.boundary.specs.Surface.{sides_of}
use Rattle.boundary.proofs.sides.edges_of.Given as goal

abbrev pub invariant-loop-triangle : goal.invariant-loop-triangle
invariant-loop-triangle l = record {
  joined : l.edges.items ≡ flat_map sides_of (take l.triangle-index l.triangles);
  count : length l.edges.items ≡ 3 * l.triangle-index;
}
