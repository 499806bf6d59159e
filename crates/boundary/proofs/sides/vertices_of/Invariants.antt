use Rattle.std.proofs.Common.{◌≡◌, ◌*◌, length, take}
use Rattle.std.specs.List.{flat_map}
use Rattle.boundary.proofs.sides.vertices_of.Given as goal

abbrev pub invariant-loop-triangle : goal.invariant-loop-triangle
invariant-loop-triangle l = record {
  joined : l.vertices.items ≡ flat_map (λ triangle. triangle) (take l.triangle-index l.triangles);
  count : length l.vertices.items ≡ 3 * l.triangle-index;
}
