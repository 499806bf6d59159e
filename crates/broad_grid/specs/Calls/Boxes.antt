-- The boxes of all parts of a surface.
use Rattle.std.specs.Prelude.{ℕ, ◌≡◌, ◌<◌, Bool, ◌&&◌, List, [], ◌∷◌, All, length, map}
use Rattle.space3.specs.declared.vectors.V3.{V3}
use Rattle.space3.specs.declared.boxes.BoundingBox.{BoundingBox}
use Rattle.space3.specs.Boxes.{are_within}
use Rattle.space3.specs.Mesh.{HasNodes}
use Rattle.boundary.specs.declared.pairs.Pair.{Pair}
use Rattle.boundary.specs.declared.pairs.PairKind.{PairKind}
use Rattle.boundary.specs.declared.pairs.PairKind.TheVariants.{VE, VT, EE, ET}
use Rattle.boundary.specs.Surface.{AreSurfaceLists, SurfaceLists}
use Rattle.box_grid.specs.Near.{LiesInTheBox, box_at}
use Rattle.broad_grid.specs.NearPairs.{is_of_close_kind}
use Rattle.broad_grid.specs.PartBoxes.{swept_box}

-- one node or more, each with a place at the start and at the end
pub record IsPlaced (x0 x1 : List V3) (nodes : List ℕ) : Type 0 where
  pub some : 0 < length nodes
  pub start : HasNodes x0 nodes
  pub end : HasNodes x1 nodes

-- the boxes of a surface's vertices, edges and triangles, each in the order of its list
pub record BoxesOfParts : Type 0 where
  pub vertices : List BoundingBox
  pub edges : List BoundingBox
  pub triangles : List BoundingBox

-- the boxes of the parts of which a kind's pairs have one first
abbrev pub first_boxes : BoxesOfParts → PairKind → List BoundingBox
first_boxes boxes VE = boxes.vertices
first_boxes boxes VT = boxes.vertices
first_boxes boxes EE = boxes.edges
first_boxes boxes ET = boxes.edges

-- of which they have one second
abbrev pub second_boxes : BoxesOfParts → PairKind → List BoundingBox
second_boxes boxes VE = boxes.edges
second_boxes boxes VT = boxes.triangles
second_boxes boxes EE = boxes.edges
second_boxes boxes ET = boxes.triangles

-- the boxes of all parts of the surface in a motion, each in the box of places
pub record HasBoxes (s : SurfaceLists) (x0 x1 : List V3) (boxes : BoxesOfParts) : Type 0 where
  pub lists : AreSurfaceLists s
  pub vertices : boxes.vertices ≡ map (λ vertex. swept_box x0 x1 (vertex ∷ [])) s.vertices
  pub edges : boxes.edges ≡ map (swept_box x0 x1) s.edges
  pub triangles : boxes.triangles ≡ map (swept_box x0 x1) s.triangles
  pub vertices_in_box : All LiesInTheBox boxes.vertices
  pub edges_in_box : All LiesInTheBox boxes.edges
  pub triangles_in_box : All LiesInTheBox boxes.triangles

-- there is a box of each part of the pair, in the box of places
pub record HasBoth (boxes : BoxesOfParts) (p : Pair) : Type 0 where
  pub first : p.a < length (first_boxes boxes p.kind)
  pub second : p.b < length (second_boxes boxes p.kind)
  pub first_in_box : LiesInTheBox (box_at (first_boxes boxes p.kind) p.a)
  pub second_in_box : LiesInTheBox (box_at (second_boxes boxes p.kind) p.b)

-- a vertex and a triangle, or two edges, whose boxes have a gap of at most `reach` along each axis
abbrev pub has_close_boxes : ℕ → BoxesOfParts → Pair → Bool
has_close_boxes reach boxes p =
    is_of_close_kind p.kind && are_within reach (box_at (first_boxes boxes p.kind) p.a) (box_at (second_boxes boxes p.kind) p.b)
