-- The boxes of parts, by their nodes.
use Rattle.std.specs.Prelude.{ℕ, List, map}
use Rattle.space3.specs.declared.vectors.V3.{V3}
use Rattle.space3.specs.declared.boxes.BoundingBox.{BoundingBox}
use Rattle.space3.specs.Boxes.{box_around, box_of}
use Rattle.space3.specs.Mesh.{place_of}

-- the least box that holds the places of these nodes
abbrev pub part_box : List V3 → List ℕ → BoundingBox
part_box places nodes = box_of (map (place_of places) nodes)

-- the least box that holds them at the start and at the end of a motion
abbrev pub swept_box : List V3 → List V3 → List ℕ → BoundingBox
swept_box x0 x1 nodes = box_around (part_box x0 nodes) (part_box x1 nodes)
