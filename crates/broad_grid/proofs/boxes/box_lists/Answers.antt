use Rattle.std.proofs.Common.{ℕ, ◌<◌, List, length, refl, inl, ◌∙◌, ◌∷◌, [], ap, arith, map, subst}
use Rattle.broad_grid.specs.PartBoxes.{swept_box}
use Rattle.boundary.specs.declared.pairs.PairKind.TheVariants.{VT, EE}
use Rattle.boundary.proofs.SurfaceParts.{first_is_edge, second_is_triangle}
use Rattle.broad_grid.proofs.PlacedParts.{parts_placed}
use Rattle.broad_grid.proofs.boxes.box_lists.Goals as goal

pub boxes_of_parts-requires : goal.boxes_of_parts-requires
boxes_of_parts-requires c =
    let s = c.args.surface.now in
    let edges = c.edges.result.now in
    let same = c.edges.ensures.edges in (
      omega arith,
      parts_placed s c.args.x0.now c.args.x1.now edges c.requires.start c.requires.end
          (λ i l. first_is_edge s EE edges i c.edges.ensures.lists (inl refl) (subst (λ (es : List (List ℕ)). i < length es) same l) same),
    )

pub boxes_of_parts-requires-2 : goal.boxes_of_parts-requires-2
boxes_of_parts-requires-2 c =
    let s = c.args.surface.now in
    let triangles = c.triangles.result.now in
    let same = c.triangles.ensures.triangles in (
      omega arith,
      parts_placed s c.args.x0.now c.args.x1.now triangles c.requires.start c.requires.end
          (λ i l. second_is_triangle s VT triangles i c.triangles.ensures.lists (inl refl) (subst (λ (ts : List (List ℕ)). i < length ts) same l) same),
    )

pub returns : goal.returns
returns c =
    let sweep = swept_box c.args.x0.now c.args.x1.now in
    record {
      lists = c.vertices.ensures.lists;
      vertices = c.in_ok-vertices.ensures.boxes ∙ ap (map (λ vertex. sweep (vertex ∷ []))) c.vertices.ensures.vertices;
      edges = c.in_ok-edges.ensures.boxes ∙ ap (map sweep) c.edges.ensures.edges;
      triangles = c.in_ok-triangles.ensures.boxes ∙ ap (map sweep) c.triangles.ensures.triangles;
      vertices_in_box = c.in_ok-vertices.ensures.in_box;
      edges_in_box = c.in_ok-edges.ensures.in_box;
      triangles_in_box = c.in_ok-triangles.ensures.in_box;
    }
