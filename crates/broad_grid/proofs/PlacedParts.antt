-- The parts of a surface have places where its vertices have, and each kind has as many boxes as parts.
use Rattle.std.proofs.Common.{◌≡◌, ◌∙◌, ℕ, ◌<◌, ◌^◌, List, [], ◌∷◌, map, length, get_or, ap, sym, subst, arith}
use Rattle.std.specs.Prelude.{All}
use Rattle.std.proofs.lemmas.List.{get_or_default, length-map}
use Rattle.std.proofs.lemmas.List.Elements.{All-contains}
use Rattle.space3.specs.declared.vectors.V3.{V3}
use Rattle.space3.specs.Mesh.{HasNodes}
use Rattle.boundary.specs.declared.pairs.PairKind.{PairKind}
use Rattle.boundary.specs.declared.pairs.PairKind.TheVariants.{VE, VT, EE, ET}
use Rattle.boundary.specs.Calls.Parts.{IsPart}
use Rattle.boundary.specs.Pairs.{second_parts}
use Rattle.boundary.specs.Surface.{SurfaceLists}
use Rattle.broad_grid.specs.PartBoxes.{swept_box}
use Rattle.broad_grid.specs.Calls.Boxes.{BoxesOfParts, HasBoxes, IsPlaced, first_boxes, second_boxes}
use Rattle.broad_grid.specs.Calls.Rows.{AreFirst, HasAsMany}

-- one to three vertices have places where all vertices have
pub placed : (s : SurfaceLists) (x0 x1 : List V3) (nodes : List ℕ) → HasNodes x0 s.vertices → HasNodes x1 s.vertices → IsPart s nodes → IsPlaced x0 x1 nodes
placed s x0 x1 nodes h k part = record {
  some = omega (arith, part.some);
  start = λ j d l. All-contains (λ node. node < length x0) s.vertices (get_or nodes j d) h (part.vertices j d l);
  end = λ j d l. All-contains (λ node. node < length x1) s.vertices (get_or nodes j d) k (part.vertices j d l);
}

-- so has each of a list of parts
pub parts_placed : (s : SurfaceLists) (x0 x1 : List V3) (parts : List (List ℕ)) → HasNodes x0 s.vertices → HasNodes x1 s.vertices → ((i : ℕ) → i < length parts → IsPart s (get_or parts i [])) → All (IsPlaced x0 x1) parts
parts_placed s x0 x1 parts h k each = λ i d l. placed s x0 x1 (get_or parts i d) h k (subst (IsPart s) (get_or_default parts i [] d l) (each i l))

vertex_count : (s : SurfaceLists) (x0 x1 : List V3) (boxes : BoxesOfParts) → HasBoxes s x0 x1 boxes → length boxes.vertices ≡ length s.vertices
vertex_count s x0 x1 boxes h = ap length h.vertices ∙ length-map s.vertices (λ vertex. swept_box x0 x1 (vertex ∷ []))

edge_count : (s : SurfaceLists) (x0 x1 : List V3) (boxes : BoxesOfParts) → HasBoxes s x0 x1 boxes → length boxes.edges ≡ length s.edges
edge_count s x0 x1 boxes h = ap length h.edges ∙ length-map s.edges (swept_box x0 x1)

triangle_count : (s : SurfaceLists) (x0 x1 : List V3) (boxes : BoxesOfParts) → HasBoxes s x0 x1 boxes → length boxes.triangles ≡ length s.triangles
triangle_count s x0 x1 boxes h = ap length h.triangles ∙ length-map s.triangles (swept_box x0 x1)

pub as_many : (s : SurfaceLists) (x0 x1 : List V3) (boxes : BoxesOfParts) → HasBoxes s x0 x1 boxes → HasAsMany s boxes
as_many s x0 x1 boxes h = record { firsts = firsts; seconds = seconds }
  where
    vertex_firsts : length boxes.vertices ≡ length (map (λ (vertex : ℕ). vertex ∷ []) s.vertices)
    vertex_firsts = vertex_count s x0 x1 boxes h ∙ sym (length-map s.vertices (λ (vertex : ℕ). vertex ∷ []))

    few_vertices : length boxes.vertices < 2 ^ 32
    few_vertices = omega (arith, vertex_count s x0 x1 boxes h, h.lists.few_vertices)

    few_edges : length boxes.edges < 2 ^ 32
    few_edges = omega (arith, edge_count s x0 x1 boxes h, h.lists.few_edges)

    firsts : (kind : PairKind) → AreFirst s kind (first_boxes boxes kind)
    firsts VE = record { as_many = vertex_firsts; few = few_vertices; in_box = h.vertices_in_box }
    firsts VT = record { as_many = vertex_firsts; few = few_vertices; in_box = h.vertices_in_box }
    firsts EE = record { as_many = edge_count s x0 x1 boxes h; few = few_edges; in_box = h.edges_in_box }
    firsts ET = record { as_many = edge_count s x0 x1 boxes h; few = few_edges; in_box = h.edges_in_box }

    seconds : (kind : PairKind) → length (second_boxes boxes kind) ≡ length (second_parts s kind)
    seconds VE = edge_count s x0 x1 boxes h
    seconds VT = triangle_count s x0 x1 boxes h
    seconds EE = edge_count s x0 x1 boxes h
    seconds ET = triangle_count s x0 x1 boxes h
