use Rattle.std.proofs.Common.{◌≡◌, ◌∷◌, [], map, take}
use Rattle.std.specs.List.{All}
use Rattle.box_grid.specs.Near.{LiesInTheBox}
use Rattle.broad_grid.specs.PartBoxes.{swept_box}
use Rattle.broad_grid.proofs.boxes.vertex_boxes.Given as goal

abbrev pub invariant-loop-vertex : goal.invariant-loop-vertex
invariant-loop-vertex l = record {
  boxes : l.boxes.items ≡ map (λ vertex. swept_box l.x0 l.x1 (vertex ∷ [])) (take l.vertex-index l.vertices);
  in_box : All LiesInTheBox l.boxes.items;
}
