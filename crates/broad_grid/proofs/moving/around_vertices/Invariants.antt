use Rattle.std.proofs.Common.{◌≡◌, ◌∷◌, [], map, take}
use Rattle.std.specs.Prelude.{IfSome, None}
use Rattle.box_grid.specs.Near.{LiesInTheBox}
use Rattle.broad_grid.specs.Calls.LooseBox.{grown}
use Rattle.broad_grid.proofs.moving.around_vertices.Given as goal

abbrev pub invariant-loop-vertex : goal.invariant-loop-vertex
invariant-loop-vertex l = record {
  value : l.around ≡ grown l.x0 l.x1 l.fixed None (map (λ vertex. vertex ∷ []) (take l.vertex-index l.vertices));
  in_box : IfSome l.around LiesInTheBox;
}
