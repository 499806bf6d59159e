use Rattle.std.proofs.Common.{ℕ, ◌<◌, List, length, refl, inl, arith, subst}
use Rattle.boundary.specs.declared.pairs.PairKind.TheVariants.{VT, EE}
use Rattle.boundary.proofs.SurfaceParts.{first_is_edge, second_is_triangle}
use Rattle.broad_grid.proofs.PlacedParts.{parts_placed}
use Rattle.broad_grid.proofs.moving.loose_box.Goals as goal

pub around_parts-edges-requires : goal.around_parts-edges-requires
around_parts-edges-requires c =
    let s = c.args.surface.now in
    let edges = c.edges.result.now in
    let same = c.edges.ensures.edges in (
      omega arith,
      (
        c.around_vertices-vertices.ensures.in_box,
        parts_placed s c.args.x0.now c.args.x1.now edges c.requires.start c.requires.end
            (λ i l. first_is_edge s EE edges i c.edges.ensures.lists (inl refl) (subst (λ (es : List (List ℕ)). i < length es) same l) same),
      ),
    )

pub around_parts-requires : goal.around_parts-requires
around_parts-requires c =
    let s = c.args.surface.now in
    let triangles = c.triangles.result.now in
    let same = c.triangles.ensures.triangles in (
      omega arith,
      (
        c.around_parts-edges.ensures.in_box,
        parts_placed s c.args.x0.now c.args.x1.now triangles c.requires.start c.requires.end
            (λ i l. second_is_triangle s VT triangles i c.triangles.ensures.lists (inl refl) (subst (λ (ts : List (List ℕ)). i < length ts) same l) same),
      ),
    )
