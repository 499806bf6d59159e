use Rattle.std.proofs.Common.{◌∙◌, ap, subst, arith}
use Rattle.std.specs.List.{Contains, flat_map}
use Rattle.std.proofs.lemmas.List.{take_all}
use Rattle.boundary.specs.Faces.{node_order}
use Rattle.boundary.specs.SortedLists.{IsSortedListOf}
use Rattle.boundary.specs.Surface.{sides_of}
use Rattle.boundary.proofs.SortedOnce.{lists_once}
use Rattle.boundary.proofs.sides.edges_of.Goals as goal

pub returns-clause-edges : goal.returns-clause-edges
returns-clause-edges c =
    subst (λ l. IsSortedListOf node_order (Contains l) c.dedup.new.self.items)
    (c.loop-triangle.invariant.joined
    ∙ ap (flat_map sides_of) (take_all c.loop-triangle.triangle-index c.args.triangles.now (omega (arith, c.loop-triangle-test.false))))
    (lists_once _ _ _ c.sort_unstable.ensures.permutation c.sort_unstable.ensures.sorted c.dedup.ensures.filtered)
