-- The box around the boxes of the parts of which some node isn't fixed.
use Rattle.std.specs.Prelude.{Bool, ℕ, List, [], ◌∷◌, Option, Some, None, map, if◌then◌else◌}
use Rattle.std.specs.List.{fold}
use Rattle.space3.specs.declared.vectors.V3.{V3}
use Rattle.space3.specs.declared.boxes.BoundingBox.{BoundingBox}
use Rattle.space3.specs.Boxes.{box_around}
use Rattle.boundary.specs.Surface.{SurfaceLists}
use Rattle.broad_grid.specs.Held.{are_held}
use Rattle.broad_grid.specs.PartBoxes.{swept_box}

-- the box around a box, if there is one, and another
abbrev pub with_box : Option BoundingBox → BoundingBox → BoundingBox
with_box None box = box
with_box (Some others) box = box_around others box

-- the box around that of a part more, where some node of it isn't fixed
abbrev pub grown_by : (x0 x1 : List V3) → (fixed : List Bool) → Option BoundingBox → (nodes : List ℕ) → Option BoundingBox
grown_by x0 x1 fixed others nodes =
    if are_held fixed nodes then others else Some (with_box others (swept_box x0 x1 nodes))

-- those of all these parts
abbrev pub grown : (x0 x1 : List V3) → (fixed : List Bool) → Option BoundingBox → List (List ℕ) → Option BoundingBox
grown x0 x1 fixed others parts = fold (grown_by x0 x1 fixed) others parts

-- those of all parts of a surface
abbrev pub loose_box : SurfaceLists → (x0 x1 : List V3) → (fixed : List Bool) → Option BoundingBox
loose_box s x0 x1 fixed =
    grown x0 x1 fixed (grown x0 x1 fixed (grown x0 x1 fixed None (map (λ vertex. vertex ∷ []) s.vertices)) s.edges) s.triangles
